use Rattle.std.proofs.Common.{◌≡◌, ◌++◌, map, take}
use Rattle.qsg_shown.specs.Showing.{queue_shown}
use Rattle.qsg_run.proofs.shows.push_queues.Given as goal

abbrev pub invariant-loop-at : goal.invariant-loop-at
invariant-loop-at g l = l.items.items ≡ l.fn.items.items ++ map (queue_shown l.sysplex) (take l.at l.sysplex.parts.objects.queues)
