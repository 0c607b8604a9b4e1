use Rattle.qsg_walk.proofs.Walking.{begun, fed, read_one, stays}
use Rattle.qsg_walk.proofs.laws.a_walk_follows_its_log.Goals as goal

pub returns-clause-begun : goal.returns-clause-begun
returns-clause-begun c = begun

pub returns-clause-fed : goal.returns-clause-fed
returns-clause-fed c = fed

pub returns-clause-read : goal.returns-clause-read
returns-clause-read c = read_one

pub returns-clause-stays : goal.returns-clause-stays
returns-clause-stays c = stays
