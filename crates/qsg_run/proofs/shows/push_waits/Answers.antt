use Rattle.std.proofs.Common.{arith}
use Rattle.qsg_run.specs.Shows.{wait_shown}
use Rattle.qsg_run.proofs.Pushing.{given_more}
use Rattle.qsg_run.proofs.shows.push_waits.Goals as goal

pub loop-actor-preserved : goal.loop-actor-preserved
loop-actor-preserved g c =
    given_more (wait_shown c.args.sysplex.now) c.args.actors.now c.loop-actor.actor-index _ c.args.items.now.items c.loop-actor.items.items c.push_wait.new.items.items (omega arith) c.loop-actor.invariant c.in_ok-push_wait.ensures
