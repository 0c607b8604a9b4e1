use Rattle.qsg_peer.proofs.Leaving.{rest_left, structures_left}
use Rattle.qsg_peer.proofs.laws.a_step_leaves_the_rest.Goals as goal

pub returns-clause-rest : goal.returns-clause-rest
returns-clause-rest c = rest_left

pub returns-clause-structures : goal.returns-clause-structures
returns-clause-structures c = structures_left
