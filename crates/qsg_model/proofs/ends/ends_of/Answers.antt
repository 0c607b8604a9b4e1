use Rattle.std.proofs.Common.{arith}
use Rattle.qsg_model.specs.History.{key}
use Rattle.qsg_model.proofs.Filling.{tally_at_end}
use Rattle.qsg_model.proofs.ends.ends_of.Goals as goal

pub returns-clause-count : goal.returns-clause-count
returns-clause-count c = (tally_at_end (key c.args.m.now) c.args.history.now c.loop-item.item-index c.loop-item.ends (omega arith) c.loop-item.invariant.so_far).0

pub returns-clause-floor : goal.returns-clause-floor
returns-clause-floor c = (tally_at_end (key c.args.m.now) c.args.history.now c.loop-item.item-index c.loop-item.ends (omega arith) c.loop-item.invariant.so_far).1
