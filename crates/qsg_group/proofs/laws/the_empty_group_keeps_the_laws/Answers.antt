use Rattle.qsg_group.proofs.Keeping.{nothing_happened}
use Rattle.qsg_group.proofs.laws.the_empty_group_keeps_the_laws.Goals as goal

pub returns : goal.returns
returns c = nothing_happened
