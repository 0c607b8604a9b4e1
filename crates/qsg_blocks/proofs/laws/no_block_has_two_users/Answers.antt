use Rattle.qsg_blocks.proofs.Counted.{owned, one_user}
use Rattle.qsg_blocks.proofs.laws.no_block_has_two_users.Goals as goal

pub returns-clause-one : goal.returns-clause-one
returns-clause-one c = λ g m b laws. one_user g m b laws

pub returns-clause-exact : goal.returns-clause-exact
returns-clause-exact c = λ g m b laws is. owned g m b is laws
