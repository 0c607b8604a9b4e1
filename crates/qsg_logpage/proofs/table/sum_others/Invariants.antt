use Rattle.std.proofs.Common.{◌≡◌, take}
use Rattle.qsg_logpage.specs.Reserved.{total, besides}
use Rattle.qsg_logpage.proofs.table.sum_others.Given as goal

abbrev pub invariant-loop-reservation : goal.invariant-loop-reservation
invariant-loop-reservation l = l.pages ≡ total (besides l.unit (take l.reservation-index l.items))
