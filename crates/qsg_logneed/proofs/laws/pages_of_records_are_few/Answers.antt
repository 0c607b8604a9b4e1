use Rattle.qsg_logneed.proofs.Runs.{few_pages}
use Rattle.qsg_logneed.proofs.laws.pages_of_records_are_few.Goals as goal

pub returns : goal.returns
returns c = few_pages
