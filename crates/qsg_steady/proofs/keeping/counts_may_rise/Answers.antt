use Rattle.qsg_steady.proofs.Committing.{counts_steady}
use Rattle.qsg_steady.proofs.keeping.counts_may_rise.Goals as goal

pub returns : goal.returns
returns c = counts_steady
