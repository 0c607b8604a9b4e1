use Rattle.std.proofs.Common.{◌∙◌, sym, ap, min, [], arith}
use Rattle.std.specs.List.{cons_option}
use Rattle.qsg_repo.specs.Keeping.{least, held_page}
use Rattle.qsg_repo.proofs.Least.{held-more}
use Rattle.qsg_repo.proofs.needs.least_held.Goals as goal
use Rattle.qsg_repo.proofs.needs.least_held.Goals.{in-Some, in_default}

pub loop-hold-preserved : goal.loop-hold-preserved
loop-hold-preserved c =
    let more = held-more c.args.member c.args.first c.loop-hold.least c.args.holds.now c.loop-hold.hold-index (omega (arith, c.loop-hold-test.true, c.told-holds)) c.loop-hold.invariant in
    elim c.match-hold.branch [
      | in-Some w ↦ w.least-is ∙ w.min-least.ensures ∙ ap (λ p. min c.loop-hold.least p.number) w.low_in.ensures ∙ ap (λ o. least c.loop-hold.least (cons_option (held_page c.args.member o) [])) (sym w.in-Some.is) ∙ more
      | in_default w ↦ w.least-is ∙ ap (λ o. least c.loop-hold.least (cons_option (held_page c.args.member o) [])) (sym w.in_default.is) ∙ more
    ]
