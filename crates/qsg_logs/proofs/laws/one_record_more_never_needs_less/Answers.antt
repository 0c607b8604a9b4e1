use Rattle.qsg_logs.proofs.Holding.{never_less}
use Rattle.qsg_logs.proofs.laws.one_record_more_never_needs_less.Goals as goal

pub returns : goal.returns
returns c = never_less
