use Rattle.std.proofs.Common.{arith}
use Rattle.qsg_dataset.proofs.Spelling.{spelling_filled}
use Rattle.qsg_dataset.proofs.Filling.{filled_more}
use Rattle.qsg_dataset.proofs.header.spell.Goals as goal

pub loop-k-preserved : goal.loop-k-preserved
loop-k-preserved c = filled_more c.args.epoch c.args.map.now c.loop-k.rest c.loop-k.k c.header_byte.result c.loop-k.invariant c.loop-k-test.true c.header_byte.ensures

pub returns : goal.returns
returns c = let h = c.loop-k.invariant in spelling_filled c.loop-k.rest c.args.epoch c.args.map.now h.0 (λ at low. h.1 at (omega (arith, low)))
