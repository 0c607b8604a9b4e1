use Rattle.qsg_logs.proofs.Holding.{at_first}
use Rattle.qsg_logs.proofs.laws.nothing_is_held_at_first.Goals as goal

pub returns : goal.returns
returns c = at_first
