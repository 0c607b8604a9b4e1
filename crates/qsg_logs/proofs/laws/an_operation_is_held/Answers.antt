use Rattle.qsg_logs.proofs.Holding.{operation_held}
use Rattle.qsg_logs.proofs.laws.an_operation_is_held.Goals as goal

pub returns : goal.returns
returns c = operation_held
