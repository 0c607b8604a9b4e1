use Rattle.std.proofs.Common.{◌≡◌, ◌≤◌, take, length}
use Rattle.qsg_logpage.specs.Reserved.{besides}
use Rattle.qsg_logpage.proofs.table.others.Given as goal

abbrev pub invariant-loop-reservation : goal.invariant-loop-reservation
invariant-loop-reservation l = record {
  items : l.kept.items ≡ besides l.unit (take l.reservation-index l.items.items);
  fewer : length l.kept.items ≤ l.reservation-index;
}
