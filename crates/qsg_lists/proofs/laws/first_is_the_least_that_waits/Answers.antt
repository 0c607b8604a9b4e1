use Rattle.qsg_lists.proofs.First.{first-waits, first-least, first-none}
use Rattle.qsg_lists.proofs.laws.first_is_the_least_that_waits.Goals as goal

pub returns-clause-waits : goal.returns-clause-waits
returns-clause-waits c = λ queue order select es e found. first-waits queue order select es e found

pub returns-clause-least : goal.returns-clause-least
returns-clause-least c = λ queue order select es e x id found there waits. first-least queue order select es e x id found there waits

pub returns-clause-none : goal.returns-clause-none
returns-clause-none c = λ queue order select es none. first-none queue order select es none
