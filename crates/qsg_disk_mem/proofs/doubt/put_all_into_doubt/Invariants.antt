use Rattle.std.proofs.Common.{◌≡◌, ◌<◌, ◌≤◌, ℕ, length, Some}
use Rattle.std.specs.Prelude.{slice_index, unwrap_or}
use Rattle.qsg_disk_mem.specs.Cells.{before_at}
use Rattle.qsg_disk_mem.proofs.doubt.put_all_into_doubt.Given as goal

abbrev pub invariant-loop-i : goal.invariant-loop-i
invariant-loop-i l = record {
  kept : length l.kept.items ≡ length l.initial.kept.items;
  room : length l.doubt.items ≡ length l.initial.doubt.items;
  range : (k : ℕ) → l.at ≤ k → k < l.i → before_at l.kept.items l.doubt.items k ≡ Some (unwrap_or (before_at l.initial.kept.items l.initial.doubt.items k) (slice_index l.values k));
  front : (k : ℕ) → k < l.at → before_at l.kept.items l.doubt.items k ≡ before_at l.initial.kept.items l.initial.doubt.items k;
  back : (k : ℕ) → l.i ≤ k → before_at l.kept.items l.doubt.items k ≡ before_at l.initial.kept.items l.initial.doubt.items k;
}
