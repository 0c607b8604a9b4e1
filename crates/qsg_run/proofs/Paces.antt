-- a step that moves leaves fewer steps, and no other changes anything
use Rattle.std.proofs.Common.{◌<◌, refl, ap}
use Rattle.qsg_num.specs.declared.ids.Actor.{Actor}
use Rattle.qsg_step.specs.declared.step.Step.{Step}
use Rattle.qsg_step.specs.declared.step.Step.TheVariants.{Moved, Waits, Done}
use Rattle.qsg_step.specs.States.{State}
use Rattle.qsg_step.specs.Steps.{IsStep}
use Rattle.qsg_pace.specs.Pace.{left}
use Rattle.qsg_drive.specs.Paces.{IsPaced}
use Rattle.qsg_drive.proofs.Stays.{no_move, stays}

pub paced : (who : Actor) (s : State) (step : Step) (r : State) → (IsStep who s Moved r → left r < left s) → IsStep who s step r → IsPaced step (left s) (left r)
paced who s Moved r less made = less made
paced who s (Waits cause) r less made = ap left (stays who s (Waits cause) r (no_move (Waits cause) refl) made)
paced who s Done r less made = ap left (stays who s Done r (no_move Done refl) made)
