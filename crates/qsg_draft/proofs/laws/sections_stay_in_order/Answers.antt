use Rattle.std.proofs.Common.{arith}
use Rattle.qsg_draft.proofs.Order.{rising-inserted, rising-extended, rising-works, operator-last}
use Rattle.qsg_draft.proofs.laws.sections_stay_in_order.Goals as goal

pub returns-clause-opened : goal.returns-clause-opened
returns-clause-opened c = λ a sections rising new. rising-inserted 0 a sections (omega arith) rising new

pub returns-clause-extended : goal.returns-clause-extended
returns-clause-extended c = rising-extended 0

pub returns-clause-works : goal.returns-clause-works
returns-clause-works c = rising-works

pub returns-clause-last : goal.returns-clause-last
returns-clause-last c = operator-last
