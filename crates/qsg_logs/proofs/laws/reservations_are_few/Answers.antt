use Rattle.qsg_logs.proofs.Holding.{are_few}
use Rattle.qsg_logs.proofs.laws.reservations_are_few.Goals as goal

pub returns : goal.returns
returns c = are_few
