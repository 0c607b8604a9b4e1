use Rattle.qsg_group.proofs.Reading.{inactive_stays}
use Rattle.qsg_group.proofs.laws.a_settle_leaves_an_inactive_structure.Goals as goal

pub returns : goal.returns
returns c = inactive_stays
