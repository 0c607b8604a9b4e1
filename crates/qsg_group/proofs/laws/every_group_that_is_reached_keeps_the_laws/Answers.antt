use Rattle.qsg_group.proofs.Keeping.{laws_hold}
use Rattle.qsg_group.proofs.laws.every_group_that_is_reached_keeps_the_laws.Goals as goal

pub returns : goal.returns
returns c = laws_hold
