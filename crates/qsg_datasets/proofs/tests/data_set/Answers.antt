use Rattle.std.proofs.Common.{arith}
use Rattle.qsg_datasets.proofs.tests.data_set.Goals as goal

pub new-requires : goal.new-requires
new-requires c = (4, record { some_bytes = omega arith; some_blocks = omega arith; most_blocks = omega arith; exact = omega arith })

pub returns : goal.returns
returns c = (c.new.ensures.block_size, c.new.ensures.blocks 4 (record { some_bytes = omega arith; some_blocks = omega arith; most_blocks = omega arith; exact = omega arith }))
