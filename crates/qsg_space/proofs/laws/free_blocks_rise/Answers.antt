use Rattle.qsg_space.proofs.Free.{free_from-rises}
use Rattle.qsg_space.proofs.laws.free_blocks_rise.Goals as goal

pub returns : goal.returns
returns c = free_from-rises 0
