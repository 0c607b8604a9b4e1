use Rattle.qsg_put.proofs.Names.{own_stays}
use Rattle.qsg_put.proofs.laws.names_stay_of_their_members.Goals as goal

pub returns : goal.returns
returns c = own_stays
