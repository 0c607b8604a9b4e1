use Rattle.std.proofs.Common.{◌≡◌, ◌++◌, take}
use Rattle.qsg_report.specs.Answered.{ops_text}
use Rattle.qsg_report.proofs.answered.push_ops.Given as goal

abbrev pub invariant-loop-work : goal.invariant-loop-work
invariant-loop-work l = l.out.items ≡ l.fn.out.items ++ ops_text (take l.work-index l.ops)
