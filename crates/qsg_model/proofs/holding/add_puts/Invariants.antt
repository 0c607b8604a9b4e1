use Rattle.std.proofs.Common.{◌≡◌, drop, filter}
use Rattle.qsg_model.specs.History.{puts, is_added, add_all}
use Rattle.qsg_model.proofs.holding.add_puts.Given as goal

abbrev pub invariant-loop-op : goal.invariant-loop-op
invariant-loop-op l = add_all (filter (is_added l.before) (puts (drop l.op-index l.ops))) l.messages.items ≡ add_all (filter (is_added l.before) (puts l.ops)) l.fn.messages.items
