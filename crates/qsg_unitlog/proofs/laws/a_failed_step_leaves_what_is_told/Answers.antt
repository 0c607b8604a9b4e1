use Rattle.qsg_unitlog.proofs.Steps.{failed_tells}
use Rattle.qsg_unitlog.proofs.laws.a_failed_step_leaves_what_is_told.Goals as goal

pub returns : goal.returns
returns c = failed_tells
