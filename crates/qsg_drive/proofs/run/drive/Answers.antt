use Rattle.std.proofs.Common.{length}
use Rattle.qsg_drive.proofs.Leading.{leads_first, leads_after, is_run}
use Rattle.qsg_drive.proofs.Rounds.{quiet_first, quiet_after}
use Rattle.qsg_drive.proofs.Pacing.{pace_after}
use Rattle.qsg_drive.proofs.run.drive.Goals as goal

pub loop-quiet-init : goal.loop-quiet-init
loop-quiet-init g c = record {
  quiet = quiet_first c.args.actors.now c.args.chooser (g.G.Group.state c.args.group.now) c.requires.some c.requires.new;
  leads = leads_first c.args.actors.now c.args.chooser (g.G.Group.state c.args.group.now);
}

pub loop-quiet-smaller : goal.loop-quiet-smaller
loop-quiet-smaller g c =
    let less = pace_after (length c.args.actors.now) c.loop-quiet.chooser c.loop-quiet.quiet (g.G.Group.left c.loop-quiet.group) c.in_ok-quiet.quiet (g.G.Group.left c.turn.new.group) c.loop-quiet-test.true (rw c.next.ensures.pick at c.in_ok-quiet.ensures.pace) in
    rw c.next.ensures.rest less

pub loop-quiet-preserved : goal.loop-quiet-preserved
loop-quiet-preserved g c =
    let turn = rw c.next.ensures.pick at c.in_ok-quiet.ensures.turn in rw c.next.ensures.rest (record {
      quiet = quiet_after c.args.actors.now c.loop-quiet.chooser c.loop-quiet.quiet (g.G.Group.state c.loop-quiet.group) c.in_ok-quiet.quiet (g.G.Group.state c.turn.new.group) c.loop-quiet.invariant.quiet turn;
      leads = leads_after c.args.actors.now c.args.chooser (g.G.Group.state c.args.group.now) c.loop-quiet.chooser c.loop-quiet.quiet (g.G.Group.state c.loop-quiet.group) c.in_ok-quiet.quiet (g.G.Group.state c.turn.new.group) c.loop-quiet-test.true c.loop-quiet.invariant.leads turn;
    })

pub returns : goal.returns
returns g c = is_run c.args.actors.now c.args.chooser (g.G.Group.state c.args.group.now) c.loop-quiet.chooser c.loop-quiet.quiet (g.G.Group.state c.loop-quiet.group) c.requires.some c.loop-quiet-test.false c.loop-quiet.invariant.quiet c.loop-quiet.invariant.leads
