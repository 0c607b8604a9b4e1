-- what a group keeps between any two steps
use Rattle.qsg_steady.specs.Steady.{AreTelling}
use Rattle.qsg_step.specs.States.{State}
use Rattle.qsg_sound.specs.Sound.{IsSound}
use Rattle.qsg_answered.specs.Fits.{AreFitting}

-- It is sound, and where its logs tell their bytes, what its actors were answered is what happened.
pub record IsKept (s : State) : Type 0 where
  pub sound : IsSound s
  pub fits : AreTelling s.parts → AreFitting s
