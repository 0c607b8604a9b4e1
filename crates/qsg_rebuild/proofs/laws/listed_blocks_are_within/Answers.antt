use Rattle.qsg_rebuild.proofs.Within.{within}
use Rattle.qsg_rebuild.proofs.laws.listed_blocks_are_within.Goals as goal

pub returns : goal.returns
returns c = within
