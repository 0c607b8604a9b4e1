use Rattle.std.proofs.Common.{◌≡◌, ◌≤◌, ◌*◌, ◌^◌, take}
use Rattle.qsg_report.specs.Totals.{operations}
use Rattle.qsg_report.proofs.totals.operations.Given as goal

abbrev pub invariant-loop-item : goal.invariant-loop-item
invariant-loop-item l = (l.count ≡ operations l.put (take l.item-index l.history)) × (l.count ≤ l.item-index * 2 ^ 64)
