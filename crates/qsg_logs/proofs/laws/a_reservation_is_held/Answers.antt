use Rattle.qsg_logs.proofs.Holding.{reserved_held}
use Rattle.qsg_logs.proofs.laws.a_reservation_is_held.Goals as goal

pub returns : goal.returns
returns c = reserved_held
