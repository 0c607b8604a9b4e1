use Rattle.std.proofs.Common.{◌≡◌, ◌++◌, take}
use Rattle.std.specs.List.{flat_map}
use Rattle.qsg_report.specs.Shared.{queue_text}
use Rattle.qsg_report.proofs.shared.push_queues.Given as goal

abbrev pub invariant-loop-queue : goal.invariant-loop-queue
invariant-loop-queue l = l.out.items ≡ l.fn.out.items ++ flat_map (queue_text) (take l.queue-index l.queues)
