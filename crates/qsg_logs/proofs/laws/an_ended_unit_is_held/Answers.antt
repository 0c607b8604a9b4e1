use Rattle.qsg_logs.proofs.Holding.{ended_held}
use Rattle.qsg_logs.proofs.laws.an_ended_unit_is_held.Goals as goal

pub returns : goal.returns
returns c = ended_held
