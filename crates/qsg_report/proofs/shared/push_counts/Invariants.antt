use Rattle.std.proofs.Common.{◌≡◌, ◌++◌, take}
use Rattle.qsg_report.specs.Shared.{counts_text}
use Rattle.qsg_report.proofs.shared.push_counts.Given as goal

abbrev pub invariant-loop-member : goal.invariant-loop-member
invariant-loop-member l = l.out.items ≡ l.fn.out.items ++ counts_text l.labels l.counts (take l.member-index l.members)
