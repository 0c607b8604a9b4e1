use Rattle.qsg_start.proofs.Following.{walk_begun, walk_goes_on}
use Rattle.qsg_start.proofs.laws.a_starts_walk_follows_the_log.Goals as goal

pub returns-clause-begun : goal.returns-clause-begun
returns-clause-begun c = walk_begun

pub returns-clause-goes_on : goal.returns-clause-goes_on
returns-clause-goes_on c = walk_goes_on
