use Rattle.std.proofs.Common.{◌≡◌, ◌≤◌, ◌*◌, sum_by, take}
use Rattle.qsg_draft.specs.Sizes.{data_set_bytes}
use Rattle.qsg_draft.proofs.sizes.set_bytes.Given as goal

abbrev pub invariant-loop-at : goal.invariant-loop-at
invariant-loop-at l = record {
  value : l.bytes ≡ sum_by (data_set_bytes l.facilities) (take l.at l.objects.structures);
  bound : l.bytes ≤ 4503599627374592 * l.at;
}
