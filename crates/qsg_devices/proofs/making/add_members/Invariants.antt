use Rattle.std.proofs.Common.{◌≡◌, ◌≤◌, length, take}
use Rattle.std.specs.List.{AllByRecursion}
use Rattle.qsg_devices.specs.Logs.{AreNewLogs}
use Rattle.qsg_devices.specs.DataSets.{AreNewSets}
use Rattle.qsg_devices.proofs.making.add_members.Given as goal

abbrev pub invariant-loop-member : goal.invariant-loop-member
invariant-loop-member g l = record {
  logs : length l.made.logs.items ≡ l.member-index;
  rows : length l.made.rows.items ≡ l.member-index;
  new : AreNewLogs (take l.member-index l.members) l.made.logs.items;
  each : AllByRecursion (AreNewSets l.shapes) l.made.rows.items;
  later : g.R.Rig.faults l.fn.rig ≤ g.R.Rig.faults l.rig;
  told : g.R.Rig.tells l.rig ≡ g.R.Rig.tells l.fn.rig;
}
