use Rattle.qsg_logrec.proofs.SetBytes.{set_rises}
use Rattle.qsg_logrec.proofs.sets.sets_are_rising.Goals as goal

pub returns : goal.returns
returns c = set_rises
