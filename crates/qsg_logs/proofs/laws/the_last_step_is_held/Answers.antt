use Rattle.qsg_logs.proofs.Holding.{last_step_held}
use Rattle.qsg_logs.proofs.laws.the_last_step_is_held.Goals as goal

pub returns : goal.returns
returns c = last_step_held
