use Rattle.qsg_logneed.proofs.Runs.{pages_never_lower}
use Rattle.qsg_logneed.proofs.laws.records_never_lower_the_pages.Goals as goal

pub returns : goal.returns
returns c = pages_never_lower
