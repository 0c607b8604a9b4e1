use Rattle.std.proofs.Common.{◌≡◌, ◌≤◌, length, take}
use Rattle.qsg_devices.specs.DataSets.{AreNewSets}
use Rattle.qsg_devices.proofs.making.add_sets.Given as goal

abbrev pub invariant-loop-shape : goal.invariant-loop-shape
invariant-loop-shape g l = record {
  count : length l.sets.items ≡ l.shape-index;
  new : AreNewSets (take l.shape-index l.shapes) l.sets.items;
  later : g.R.Rig.faults l.fn.rig ≤ g.R.Rig.faults l.rig;
  told : g.R.Rig.tells l.rig ≡ g.R.Rig.tells l.fn.rig;
}
