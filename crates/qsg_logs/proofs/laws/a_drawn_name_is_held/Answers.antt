use Rattle.qsg_logs.proofs.Holding.{drawn_held}
use Rattle.qsg_logs.proofs.laws.a_drawn_name_is_held.Goals as goal

pub returns : goal.returns
returns c = drawn_held
