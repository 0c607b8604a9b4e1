use Rattle.qsg_script.proofs.Order.{works-in-order, operator-is-last}
use Rattle.qsg_script.proofs.laws.works_of_a_plan_stand_in_order.Goals as goal

pub returns-clause-order : goal.returns-clause-order
returns-clause-order c = works-in-order

pub returns-clause-last : goal.returns-clause-last
returns-clause-last c = operator-is-last
