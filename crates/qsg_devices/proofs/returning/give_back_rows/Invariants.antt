use Rattle.std.proofs.Common.{◌≡◌, ◌≤◌, ◌++◌, true, length}
use Rattle.qsg_devices.specs.Places.{AreGivenBack, rows_bytes}
use Rattle.qsg_devices.proofs.returning.give_back_rows.Given as goal

abbrev pub invariant-loop-row : goal.invariant-loop-row
invariant-loop-row g l = record {
  split : l.fn.rows ≡ l.yielded ++ l.row-iterator.rest.items;
  count : l.number ≡ length l.yielded;
  given : g.R.Rig.tells l.fn.rig ≡ true → AreGivenBack g.D.Disk.bytes (rows_bytes l.yielded) (g.R.Rig.given l.fn.rig) (g.R.Rig.given l.rig);
  later : g.R.Rig.faults l.fn.rig ≤ g.R.Rig.faults l.rig;
  told : g.R.Rig.tells l.rig ≡ g.R.Rig.tells l.fn.rig;
}
