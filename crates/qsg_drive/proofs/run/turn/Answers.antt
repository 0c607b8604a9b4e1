use Rattle.std.proofs.Common.{◌≡◌, ◌+◌, false, refl, sym, subst, ◌∙◌, inr}
use Rattle.qsg_schedule.specs.declared.chooser.Pick.{Pick}
use Rattle.qsg_drive.specs.Tries.{moves}
use Rattle.qsg_drive.specs.Turns.{IsTurn}
use Rattle.qsg_drive.proofs.Stays.{no_move, stays, is_still}
use Rattle.qsg_drive.proofs.run.turn.Goals as goal

pub returns-else-moves-clause-turn : goal.returns-else-moves-clause-turn
returns-else-moves-clause-turn g c =
    let step = c.in_ok-step-in-Round.field-0 in
    let who = c.in-Round.actor in
    let s = g.G.Group.state c.args.group.now in
    let r = g.G.Group.state c.step-in-Round.new.self in
    let made = c.in_ok-step-in-Round.ensures.next in
    let quiet : moves step ≡ false = sym c.moves.ensures ∙ c.if-moves.false in
    subst (λ (pick : Pick). IsTurn pick c.args.actors.now c.args.quiet s (c.args.quiet + 1) r) (sym c.in-Round.is)
    (inr (record { counted = refl; same = stays who s step r (no_move step quiet) made; still = is_still who s step r quiet made }))
