use Rattle.std.proofs.Common.{◌≡◌, length}
use Rattle.qsg_lines.specs.Places.{IsRoom, items_at, end_at}
use Rattle.qsg_lines.proofs.statements.next_item.Given as goal

abbrev pub invariant-loop-alloc : goal.invariant-loop-alloc
invariant-loop-alloc l = record {
  room : IsRoom l.place;
  items : items_at l.place ≡ items_at l.fn.from;
  end : end_at l.place ≡ end_at l.fn.from;
}

abbrev pub decreases-loop-alloc : goal.decreases-loop-alloc
decreases-loop-alloc l = length l.place.rest.now
