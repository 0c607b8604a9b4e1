use Rattle.std.proofs.Common.{length, ap, arith}
use Rattle.qsg_parts.specs.Owned.{Owned}
use Rattle.qsg_shown.specs.Showing.{queue_shown}
use Rattle.qsg_run.proofs.Pushing.{mapped_more}
use Rattle.qsg_run.proofs.shows.push_queues.Goals as goal

pub loop-at-preserved : goal.loop-at-preserved
loop-at-preserved g c =
    mapped_more (queue_shown c.args.sysplex.now) c.args.sysplex.now.parts.objects.queues c.loop-at.at c.args.items.now.items c.loop-at.items.items c.push_queue.new.items.items (let count = c.queue_count-at-end.ensures.value in let test = c.loop-at-test.true in let same = ap (λ (p : Owned). length p.objects.queues) c.parts.ensures in omega (arith, count, test, same)) c.loop-at.invariant c.in_ok-push_queue.ensures
