use Rattle.qsg_logs.proofs.Holding.{settling_held}
use Rattle.qsg_logs.proofs.laws.a_unit_that_settles_is_held.Goals as goal

pub returns : goal.returns
returns c = settling_held
