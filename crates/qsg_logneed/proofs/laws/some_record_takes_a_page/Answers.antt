use Rattle.qsg_logneed.proofs.Runs.{some_page}
use Rattle.qsg_logneed.proofs.laws.some_record_takes_a_page.Goals as goal

pub returns : goal.returns
returns c = some_page
