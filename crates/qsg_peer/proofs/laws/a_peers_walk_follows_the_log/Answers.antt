use Rattle.qsg_peer.proofs.Following.{walk_begun, walk_goes_on}
use Rattle.qsg_peer.proofs.laws.a_peers_walk_follows_the_log.Goals as goal

pub returns-clause-begun : goal.returns-clause-begun
returns-clause-begun c = walk_begun

pub returns-clause-goes_on : goal.returns-clause-goes_on
returns-clause-goes_on c = walk_goes_on
