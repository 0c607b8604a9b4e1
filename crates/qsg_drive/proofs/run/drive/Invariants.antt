use Rattle.std.proofs.Common.{length, ◌+◌}
use Rattle.qsg_drive.specs.Quiet.{IsQuiet, Leads, turns_left}
use Rattle.qsg_drive.proofs.Pacing.{way}
use Rattle.qsg_drive.proofs.run.drive.Given as goal

abbrev pub invariant-loop-quiet : goal.invariant-loop-quiet
invariant-loop-quiet g l = record {
  quiet : IsQuiet l.actors l.chooser l.quiet (g.G.Group.state l.group);
  leads : Leads l.actors l.fn.chooser (g.G.Group.state l.fn.group) l.quiet l.chooser (g.G.Group.state l.group);
}

abbrev pub decreases-loop-quiet : goal.decreases-loop-quiet
decreases-loop-quiet g l = way (length l.actors) (turns_left l.chooser + g.G.Group.left l.group) l.quiet
