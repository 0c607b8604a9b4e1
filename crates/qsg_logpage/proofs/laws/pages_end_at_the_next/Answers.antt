use Rattle.qsg_logpage.proofs.Runs.{pages_end}
use Rattle.qsg_logpage.proofs.laws.pages_end_at_the_next.Goals as goal

pub returns : goal.returns
returns c = pages_end
