use Rattle.std.proofs.Common.{◌≡◌, ◌≤◌, ◌++◌, true, length}
use Rattle.qsg_devices.specs.Places.{AreGivenBack, logs_bytes}
use Rattle.qsg_devices.proofs.returning.give_back_logs.Given as goal

abbrev pub invariant-loop-log : goal.invariant-loop-log
invariant-loop-log g l = record {
  split : l.fn.logs ≡ l.yielded ++ l.log-iterator.rest.items;
  count : l.number ≡ length l.yielded;
  given : g.R.Rig.tells l.fn.rig ≡ true → AreGivenBack g.D.Disk.bytes (logs_bytes l.yielded) (g.R.Rig.given l.fn.rig) (g.R.Rig.given l.rig);
  later : g.R.Rig.faults l.fn.rig ≤ g.R.Rig.faults l.rig;
  told : g.R.Rig.tells l.rig ≡ g.R.Rig.tells l.fn.rig;
}
