use Rattle.std.proofs.Common.{◌≡◌, ◌<◌, ◌≤◌, ℕ, length}
use Rattle.std.specs.Prelude.{slice_index}
use Rattle.qsg_disk_mem.specs.Cells.{cell_at, after_cut}
use Rattle.qsg_disk_mem.proofs.doubt.choose_all.Given as goal

abbrev pub invariant-loop-i : goal.invariant-loop-i
invariant-loop-i l = record {
  length : length l.values.items ≡ length l.initial.values.items;
  below : (k : ℕ) → l.low ≤ k → k < l.i → slice_index l.values.items k ≡ (after_cut l.pick k (cell_at l.initial.values.items l.kept l.doubt k)).now;
  front : (k : ℕ) → k < l.low → slice_index l.values.items k ≡ slice_index l.initial.values.items k;
  back : (k : ℕ) → l.i ≤ k → slice_index l.values.items k ≡ slice_index l.initial.values.items k;
}
