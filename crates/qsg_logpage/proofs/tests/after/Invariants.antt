use Rattle.std.proofs.Common.{◌≡◌}
use Rattle.qsg_logpage.proofs.tests.after.Given as goal

abbrev pub invariant-loop-step : goal.invariant-loop-step
invariant-loop-step l = l.log.size ≡ 3
