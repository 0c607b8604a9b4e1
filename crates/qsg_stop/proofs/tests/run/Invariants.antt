use Rattle.qsg_parts.specs.Owned.{owned}
use Rattle.qsg_stop.specs.Needs.{MayStep}
use Rattle.qsg_stop.proofs.tests.run.Given as goal

abbrev pub invariant-loop-step : goal.invariant-loop-step
invariant-loop-step l = MayStep l.work (owned l.parts)
