use Rattle.qsg_sound.proofs.Steps.{step_keeps_sound}
use Rattle.qsg_sound.proofs.laws.a_step_keeps_a_group_sound.Goals as goal

pub returns : goal.returns
returns c = step_keeps_sound
