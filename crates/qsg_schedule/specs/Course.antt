-- what a chooser still gives
use Rattle.std.specs.Prelude.{ℕ, zero, suc, ◌+◌, ◌-◌, ◌*◌, ◌/◌, ◌%◌, ◌^◌, ◌==◌, if◌then◌else◌, List, [], ◌∷◌, ◌++◌, length, slice_index_or}
use Rattle.qsg_num.specs.declared.ids.Actor.{Actor}
use Rattle.qsg_num.specs.declared.ids.Actor.TheVariants.{Operator}
use Rattle.qsg_schedule.specs.declared.chooser.Pick.{Pick}
use Rattle.qsg_schedule.specs.declared.chooser.Pick.TheVariants.{Exactly, Round, From}

-- the lines of a schedule that are left, the actors, and the number of the one whose round is next;
-- or the number of the last draw, and the actors
pub data Course : Type 0 where
  listed : List (Actor × ℕ) → List Actor → ℕ → Course
  seeded : ℕ → List Actor → Course

-- lines without those at the front that have no turn left
abbrev pub due : List (Actor × ℕ) → List (Actor × ℕ)
due [] = []
due (line ∷ lines) = if line.1 == 0 then due lines else line ∷ lines

-- the actor of a number
abbrev pub actor_number : List Actor → ℕ → Actor
actor_number actors at = slice_index_or actors at Operator

-- the number of a draw, from that of the last one
abbrev pub drawn : ℕ → ℕ
drawn s = (s * 6364136223846793005 + 1442695040888963407) % 2 ^ 64

-- the actor that a draw names
abbrev pub draw : ℕ → List Actor → Actor
draw s actors = actor_number actors ((s / 2 ^ 33) % length actors)

-- the pick where these lines are due, and what is left after it
abbrev pub pick_of : List (Actor × ℕ) → List Actor → ℕ → Pick
pick_of [] actors round = Round (actor_number actors round)
pick_of (line ∷ lines) actors round = Exactly line.0

abbrev pub rest_of : List (Actor × ℕ) → List Actor → ℕ → Course
rest_of [] actors round = listed [] actors ((round + 1) % length actors)
rest_of (line ∷ lines) actors round = listed ((line.0, line.1 - 1) ∷ lines) actors round

-- the next pick, and what is left after it
abbrev pub pick : Course → Pick
pick (listed turns actors round) = pick_of (due turns) actors round
pick (seeded s actors) = From (draw (drawn s) actors)

abbrev pub rest : Course → Course
rest (listed turns actors round) = rest_of (due turns) actors round
rest (seeded s actors) = seeded (drawn s) actors

-- the pick of a number, from 0
abbrev pub pick_at : Course → ℕ → Pick
pick_at c zero = pick c
pick_at c (suc k) = pick_at (rest c) k

-- an actor, so many times
abbrev pub times : ℕ → Actor → List Actor
times zero a = []
times (suc n) a = a ∷ times n a

-- whose turns these lines are, each as often as its count says
abbrev pub turns_of : List (Actor × ℕ) → List Actor
turns_of [] = []
turns_of (line ∷ lines) = times line.1 line.0 ++ turns_of lines
