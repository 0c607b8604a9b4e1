use Rattle.std.proofs.Common.{◌≡◌, ◌∙◌, true, false, sym, arith}
use Rattle.qsg_drive.specs.Tries.{moves}
use Rattle.qsg_drive.proofs.Trying.{first_step, more_still, same_state, quiet_pace}
use Rattle.qsg_drive.proofs.tries.try_all.Goals as goal

pub returns-then-moves-clause-tried : goal.returns-then-moves-clause-tried
returns-then-moves-clause-tried g c =
    let quick : moves c.in_ok-step.field-0 ≡ true = sym c.moves.ensures ∙ c.if-moves.true in
    first_step c.args.actors.now c.loop-actor.actor-index _ (g.G.Group.state c.args.group.now) (g.G.Group.state c.loop-actor.group) c.in_ok-step.field-0 (g.G.Group.state c.step.new.self) (omega arith) c.loop-actor.invariant.same c.loop-actor.invariant.still quick c.in_ok-step.ensures.next

pub loop-actor-preserved : goal.loop-actor-preserved
loop-actor-preserved g c =
    let quiet : moves c.in_ok-step.field-0 ≡ false = sym c.moves.ensures ∙ c.if-moves.false in record {
      same = same_state _ (g.G.Group.state c.args.group.now) (g.G.Group.state c.loop-actor.group) c.in_ok-step.field-0 (g.G.Group.state c.step.new.self) c.loop-actor.invariant.same quiet c.in_ok-step.ensures.next;
      pace = quiet_pace c.in_ok-step.field-0 (g.G.Group.left c.args.group.now) (g.G.Group.left c.loop-actor.group) (g.G.Group.left c.step.new.self) c.loop-actor.invariant.pace quiet c.in_ok-step.ensures.pace;
      still = more_still c.args.actors.now c.loop-actor.actor-index _ (g.G.Group.state c.args.group.now) (g.G.Group.state c.loop-actor.group) c.in_ok-step.field-0 (g.G.Group.state c.step.new.self) (omega arith) c.loop-actor.invariant.same c.loop-actor.invariant.still quiet c.in_ok-step.ensures.next;
    }
