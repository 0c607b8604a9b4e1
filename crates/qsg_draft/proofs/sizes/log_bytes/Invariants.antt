use Rattle.std.proofs.Common.{◌≡◌, ◌≤◌, ◌*◌, sum_by, take}
use Rattle.qsg_draft.specs.Sizes.{log_bytes}
use Rattle.qsg_draft.proofs.sizes.log_bytes.Given as goal

abbrev pub invariant-loop-member : goal.invariant-loop-member
invariant-loop-member l = record {
  value : l.bytes ≡ sum_by log_bytes (take l.member-index l.members);
  bound : l.bytes ≤ 17592186044416 * l.member-index;
}
