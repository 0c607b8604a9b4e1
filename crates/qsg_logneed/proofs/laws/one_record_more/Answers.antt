use Rattle.qsg_logneed.proofs.Runs.{one_more}
use Rattle.qsg_logneed.proofs.laws.one_record_more.Goals as goal

pub returns : goal.returns
returns c = one_more
