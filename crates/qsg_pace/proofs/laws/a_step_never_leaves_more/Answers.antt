use Rattle.qsg_pace.proofs.Steps.{step_leaves_no_more}
use Rattle.qsg_pace.proofs.laws.a_step_never_leaves_more.Goals as goal

pub returns : goal.returns
returns c = step_leaves_no_more
