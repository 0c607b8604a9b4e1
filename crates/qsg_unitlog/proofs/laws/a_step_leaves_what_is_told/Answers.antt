use Rattle.qsg_unitlog.proofs.Steps.{step_tells}
use Rattle.qsg_unitlog.proofs.laws.a_step_leaves_what_is_told.Goals as goal

pub returns : goal.returns
returns c = step_tells
