-- what the step of a pick makes of a group, and of the rounds in a row that didn't move
use Rattle.std.specs.Prelude.{ℕ, ◌+◌, ◌≡◌, ◌<◌, ◌≤◌, ◌⊎◌, List, length}
use Rattle.qsg_num.specs.declared.ids.Actor.{Actor}
use Rattle.qsg_schedule.specs.declared.chooser.Pick.{Pick}
use Rattle.qsg_schedule.specs.declared.chooser.Pick.TheVariants.{Exactly, Round, From}
use Rattle.qsg_step.specs.declared.step.Step.{Step}
use Rattle.qsg_step.specs.declared.step.Step.TheVariants.{Moved}
use Rattle.qsg_step.specs.States.{State}
use Rattle.qsg_step.specs.Steps.{IsStep}
use Rattle.qsg_drive.specs.Runs.{IsStill, AreStill, round_from}
use Rattle.qsg_drive.specs.Tries.{IsFirstStep}

-- the actor made a step, however it ended
pub record IsMade (who : Actor) (s r : State) : Type 0 where
  pub step : Step
  pub made : IsStep who s step r

-- nothing changed, since the step of the actor doesn't move
pub record IsRoundStill (who : Actor) (quiet : ℕ) (s : State) (after : ℕ) (r : State) : Type 0 where
  pub counted : after ≡ quiet + 1
  pub same : r ≡ s
  pub still : IsStill who s

-- nothing changed, since no actor's step moves
pub record AreAllStill (actors : List Actor) (who : Actor) (s : State) (after : ℕ) (r : State) : Type 0 where
  pub counted : after ≡ length actors
  pub same : r ≡ s
  pub still : AreStill (round_from who actors) s

-- A step was made and no round is quiet; or a round was, or all are.
abbrev pub IsTurn : Pick → List Actor → ℕ → State → ℕ → State → Type 0
IsTurn (Exactly who) actors quiet s after r = (after ≡ 0) × IsMade who s r
IsTurn (Round who) actors quiet s after r = ((after ≡ 0) × IsStep who s Moved r) ⊎ IsRoundStill who quiet s after r
IsTurn (From who) actors quiet s after r = ((after ≡ 0) × IsFirstStep (round_from who actors) s r) ⊎ AreAllStill actors who s after r

-- the steps that may still come are no more, and are fewer unless more rounds are quiet
abbrev pub IsTurnPace : Pick → ℕ → ℕ → ℕ → ℕ → Type 0
IsTurnPace (Exactly who) quiet before after now = now ≤ before
IsTurnPace (Round who) quiet before after now = (now < before) ⊎ ((now ≡ before) × (quiet < after))
IsTurnPace (From who) quiet before after now = (now < before) ⊎ ((now ≡ before) × (quiet < after))
