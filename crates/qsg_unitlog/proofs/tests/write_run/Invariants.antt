use Rattle.std.proofs.Common.{◌≡◌}
use Rattle.qsg_unitlog.proofs.tests.write_run.Given as goal

abbrev pub invariant-loop-step : goal.invariant-loop-step
invariant-loop-step l = l.log.size ≡ 8
