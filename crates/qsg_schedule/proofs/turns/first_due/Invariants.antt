use Rattle.std.proofs.Common.{◌≡◌, ◌≤◌, ◌-◌, length, drop}
use Rattle.qsg_schedule.specs.Course.{due}
use Rattle.qsg_schedule.proofs.turns.first_due.Given as goal

abbrev pub invariant-loop-at : goal.invariant-loop-at
invariant-loop-at l =
    record {
      bound : l.at ≤ length l.turns;
      left : due (drop l.at l.turns) ≡ due (drop l.fn.from l.turns);
    }

abbrev pub decreases-loop-at : goal.decreases-loop-at
decreases-loop-at l = length l.turns - l.at
