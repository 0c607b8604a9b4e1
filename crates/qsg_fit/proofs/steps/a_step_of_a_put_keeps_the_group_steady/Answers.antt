use Rattle.qsg_fit.proofs.Puts.{put_keeps}
use Rattle.qsg_fit.proofs.steps.a_step_of_a_put_keeps_the_group_steady.Goals as goal

pub returns : goal.returns
returns c = put_keeps
