use Rattle.qsg_sound.proofs.Steps.{roomy_sound}
use Rattle.qsg_sound.proofs.laws.a_step_that_wants_memory_keeps_a_group_sound.Goals as goal

pub returns : goal.returns
returns c = roomy_sound
