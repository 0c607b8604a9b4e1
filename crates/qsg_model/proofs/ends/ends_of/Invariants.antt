use Rattle.std.proofs.Common.{◌≡◌, ◌≤◌, take}
use Rattle.std.specs.List.{fold}
use Rattle.qsg_num.specs.Seats.{structure_number}
use Rattle.qsg_model.specs.Ends.{ends_after, no_ends}
use Rattle.qsg_model.proofs.ends.ends_of.Given as goal

abbrev pub invariant-loop-item : goal.invariant-loop-item
invariant-loop-item l = record {
  so_far : l.ends ≡ fold (ends_after (structure_number l.m.structure)) no_ends (take l.item-index l.history);
  bound : l.ends.count ≤ l.item-index;
}
