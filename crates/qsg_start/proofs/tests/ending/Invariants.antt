use Rattle.qsg_parts.specs.Owned.{owned}
use Rattle.qsg_start.specs.Needs.{MayStart}
use Rattle.qsg_start.proofs.tests.ending.Given as goal

abbrev pub invariant-loop-step : goal.invariant-loop-step
invariant-loop-step l = MayStart l.work.member (owned l.parts)
