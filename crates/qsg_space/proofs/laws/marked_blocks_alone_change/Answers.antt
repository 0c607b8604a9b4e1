use Rattle.qsg_space.proofs.Marking.{get_or-marked}
use Rattle.qsg_space.proofs.laws.marked_blocks_alone_change.Goals as goal

pub returns : goal.returns
returns c = get_or-marked
