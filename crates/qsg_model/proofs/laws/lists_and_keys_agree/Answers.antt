use Rattle.qsg_model.proofs.Listed.{held_is_held, held_in_order}
use Rattle.qsg_model.proofs.laws.lists_and_keys_agree.Goals as goal

pub returns-clause-agree : goal.returns-clause-agree
returns-clause-agree c = held_is_held

pub returns-clause-in_order : goal.returns-clause-in_order
returns-clause-in_order c = held_in_order
