use Rattle.qsg_commit.proofs.Finishing.{low_page_published, low_page_refused}
use Rattle.qsg_commit.proofs.laws.a_low_page_that_is_told_is_published.Goals as goal

pub returns-clause-change : goal.returns-clause-change
returns-clause-change c = low_page_published

pub returns-clause-refused : goal.returns-clause-refused
returns-clause-refused c = low_page_refused
