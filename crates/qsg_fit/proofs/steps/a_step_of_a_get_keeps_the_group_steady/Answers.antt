use Rattle.qsg_fit.proofs.Gets.{get_keeps}
use Rattle.qsg_fit.proofs.steps.a_step_of_a_get_keeps_the_group_steady.Goals as goal

pub returns : goal.returns
returns c = get_keeps
