use Rattle.std.proofs.Common.{◌≡◌, ◌++◌, take}
use Rattle.qsg_run.specs.Shows.{waits_of}
use Rattle.qsg_run.proofs.shows.push_waits.Given as goal

abbrev pub invariant-loop-actor : goal.invariant-loop-actor
invariant-loop-actor g l = l.items.items ≡ l.fn.items.items ++ waits_of (take l.actor-index l.actors) l.sysplex
