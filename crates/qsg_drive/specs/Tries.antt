-- what trying the steps of actors in turn makes of a group
use Rattle.std.specs.Prelude.{ℕ, ◌≡◌, ◌<◌, Bool, true, false, List}
use Rattle.qsg_num.specs.declared.ids.Actor.{Actor}
use Rattle.qsg_step.specs.declared.step.Step.{Step}
use Rattle.qsg_step.specs.declared.step.Step.TheVariants.{Moved, Waits, Done}
use Rattle.qsg_step.specs.States.{State}
use Rattle.qsg_step.specs.Steps.{IsStep}
use Rattle.qsg_drive.specs.Runs.{AreStill, IsFirstOf}

abbrev pub moves : Step → Bool
moves Moved = true
moves (Waits cause) = false
moves Done = false

-- a step of the first of these actors whose step moves
pub record IsFirstStep (actors : List Actor) (s r : State) : Type 0 where
  pub who : Actor
  pub first : IsFirstOf actors s who
  pub made : IsStep who s Moved r

-- one of these actors made a step, or else the step of none moves and nothing changed
abbrev pub AreTried : Bool → List Actor → State → State → Type 0
AreTried true actors s r = IsFirstStep actors s r
AreTried false actors s r = (r ≡ s) × AreStill actors s

-- the number of steps that may still come fell where one was made
abbrev pub IsTriedPace : Bool → ℕ → ℕ → Type 0
IsTriedPace true before now = now < before
IsTriedPace false before now = now ≡ before
