use Rattle.std.proofs.Common.{◌≡◌, ◌++◌, take}
use Rattle.std.specs.List.{flat_map}
use Rattle.qsg_report.specs.Shared.{failure_text}
use Rattle.qsg_report.proofs.shared.push_failures.Given as goal

abbrev pub invariant-loop-failure : goal.invariant-loop-failure
invariant-loop-failure l = l.out.items ≡ l.fn.out.items ++ flat_map (failure_text l.labels) (take l.failure-index l.failed)
