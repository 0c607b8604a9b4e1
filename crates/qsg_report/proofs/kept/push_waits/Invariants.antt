use Rattle.std.proofs.Common.{◌≡◌, ◌++◌, take}
use Rattle.std.specs.List.{flat_map}
use Rattle.qsg_report.specs.Kept.{wait_text}
use Rattle.qsg_report.proofs.kept.push_waits.Given as goal

abbrev pub invariant-loop-wait : goal.invariant-loop-wait
invariant-loop-wait l = l.out.items ≡ l.fn.out.items ++ flat_map (wait_text l.labels) (take l.wait-index l.waits)
