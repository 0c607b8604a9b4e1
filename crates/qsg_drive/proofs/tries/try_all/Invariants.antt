use Rattle.std.proofs.Common.{◌≡◌, take}
use Rattle.qsg_drive.specs.Runs.{AreStill}
use Rattle.qsg_drive.proofs.tries.try_all.Given as goal

abbrev pub invariant-loop-actor : goal.invariant-loop-actor
invariant-loop-actor g l = record {
  same : g.G.Group.state l.group ≡ g.G.Group.state l.fn.group;
  pace : g.G.Group.left l.group ≡ g.G.Group.left l.fn.group;
  still : AreStill (take l.actor-index l.actors) (g.G.Group.state l.fn.group);
}
