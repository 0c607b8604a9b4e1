use Rattle.std.proofs.Common.{◌≡◌, ◌≤◌, ◌++◌, true, length}
use Rattle.qsg_devices.specs.Places.{AreGivenBack, row_bytes}
use Rattle.qsg_devices.proofs.returning.give_back_row.Given as goal

abbrev pub invariant-loop-set : goal.invariant-loop-set
invariant-loop-set g l = record {
  split : l.fn.row ≡ l.yielded ++ l.set-iterator.rest.items;
  count : l.number ≡ length l.yielded;
  given : g.R.Rig.tells l.fn.rig ≡ true → AreGivenBack g.D.Disk.bytes (row_bytes l.member l.yielded) (g.R.Rig.given l.fn.rig) (g.R.Rig.given l.rig);
  later : g.R.Rig.faults l.fn.rig ≤ g.R.Rig.faults l.rig;
  told : g.R.Rig.tells l.rig ≡ g.R.Rig.tells l.fn.rig;
}
