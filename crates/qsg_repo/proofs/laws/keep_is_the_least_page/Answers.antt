use Rattle.qsg_repo.proofs.Needed.{keep-before, keep-last}
use Rattle.qsg_repo.proofs.laws.keep_is_the_least_page.Goals as goal

pub returns-clause-before : goal.returns-clause-before
returns-clause-before c = keep-before

pub returns-clause-last : goal.returns-clause-last
returns-clause-last c = keep-last
