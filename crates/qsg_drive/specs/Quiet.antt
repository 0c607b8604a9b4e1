-- how far a run has come, and which actors are known to be still
use Rattle.std.specs.Prelude.{ℕ, ◌+◌, ◌≡◌, ◌<◌, ◌≤◌, ◌⊎◌, List, length, sum_by}
use Rattle.qsg_num.specs.declared.ids.Actor.{Actor}
use Rattle.qsg_schedule.specs.Course.{Course, listed, seeded, actor_number}
use Rattle.qsg_step.specs.States.{State}
use Rattle.qsg_drive.specs.Runs.{Made, Follows, IsStill, IsThrough}

-- a place is one of so many just before a round's, of n in a circle
abbrev pub IsBehind : ℕ → ℕ → ℕ → ℕ → Type 0
IsBehind n round quiet at = ((at < round) × (round ≤ at + quiet)) ⊎ ((round ≤ at) × (round + n ≤ at + quiet))

-- the actors of the last so many rounds are still; where the actors are drawn, all are, or none is known to be
abbrev pub IsQuiet : List Actor → Course → ℕ → State → Type 0
IsQuiet actors (listed turns all round) quiet s =
    (all ≡ actors) × (round < length actors) × ((at : ℕ) → at < length actors → IsBehind (length actors) round quiet at → IsStill (actor_number actors at) s)
IsQuiet actors (seeded n all) quiet s =
    (all ≡ actors) × (0 < quiet → (at : ℕ) → at < length actors → IsStill (actor_number actors at) s)

-- Steps lead from a state to another by the picks of a course, of which this is left; a last pick may have found no step
-- that moves.
pub record Leads (actors : List Actor) (course : Course) (s : State) (quiet : ℕ) (left : Course) (r : State) : Type 0 where
  pub path : List Made
  pub later : Course
  pub follows : Follows actors course s path later r
  pub same : quiet < length actors → left ≡ later
  pub through : 0 < quiet → IsThrough later

-- the turns that the lines of a schedule have left
abbrev pub turns_left : Course → ℕ
turns_left (listed turns actors round) = sum_by (λ (line : Actor × ℕ). line.1) turns
turns_left (seeded n actors) = 0
