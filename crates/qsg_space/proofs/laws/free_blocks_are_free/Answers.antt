use Rattle.std.proofs.Common.{sym, zero-add}
use Rattle.qsg_space.proofs.Free.{has-free_from}
use Rattle.qsg_space.proofs.laws.free_blocks_are_free.Goals as goal

pub returns : goal.returns
returns c = λ used b. has-free_from b 0 b.number used (sym (zero-add b.number))
