use Rattle.qsg_logpage.proofs.Runs.{keep_rises}
use Rattle.qsg_logpage.proofs.laws.keep_may_rise.Goals as goal

pub returns : goal.returns
returns c = keep_rises
