use Rattle.std.proofs.Common.{◌≡◌, ◌++◌, drop, length}
use Rattle.qsg_logpage.specs.Reserved.{lowered, left_lowered}
use Rattle.qsg_logpage.proofs.table.with_a_page_less.Given as goal

abbrev pub invariant-loop-reservation : goal.invariant-loop-reservation
invariant-loop-reservation l = record {
  goes : l.out.items ++ left_lowered l.unit l.found (drop l.reservation-index l.items.items) ≡ lowered l.unit l.items.items;
  length : length l.out.items ≡ l.reservation-index;
}
