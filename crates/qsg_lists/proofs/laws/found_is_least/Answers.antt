use Rattle.qsg_lists.proofs.Found.{find-least, find-none_at}
use Rattle.qsg_lists.proofs.laws.found_is_least.Goals as goal

pub returns-clause-least : goal.returns-clause-least
returns-clause-least c = λ p es e x id ordered found there passes. find-least p es e x id ordered found there passes

pub returns-clause-none : goal.returns-clause-none
returns-clause-none c = λ p es x id none there. find-none_at p es x id none there
