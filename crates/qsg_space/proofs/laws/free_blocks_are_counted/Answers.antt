use Rattle.qsg_space.proofs.Free.{length-free_from}
use Rattle.qsg_space.proofs.laws.free_blocks_are_counted.Goals as goal

pub returns : goal.returns
returns c = λ used. length-free_from 0 used
