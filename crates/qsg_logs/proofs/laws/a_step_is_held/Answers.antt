use Rattle.qsg_logs.proofs.Holding.{step_held}
use Rattle.qsg_logs.proofs.laws.a_step_is_held.Goals as goal

pub returns : goal.returns
returns c = step_held
