use Rattle.std.proofs.Common.{◌≡◌, ◌<◌, ◌+◌, ◌%◌, ℕ, length}
use Rattle.std.specs.Prelude.{slice_index}
use Rattle.qsg_disk_mem.proofs.blind.repeat.Given as goal

abbrev pub invariant-loop-i : goal.invariant-loop-i
invariant-loop-i l = record {
  length : length l.into ≡ length l.initial.into;
  bytes : (k : ℕ) → k < l.i → slice_index l.into k ≡ slice_index l.page ((l.at + k) % 4096);
}
