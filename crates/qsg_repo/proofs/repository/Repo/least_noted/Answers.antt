use Rattle.std.proofs.Common.{◌∙◌, ◌≡◌, sym, ap, min, cond, map, [], ◌∷◌, get_or, arith}
use Rattle.qsg_num.specs.declared.seats.StructNo.TheVariants.{One}
use Rattle.qsg_repo.specs.Keeping.{least, noted_page, structures}
use Rattle.qsg_repo.specs.Tables.{note_at}
use Rattle.qsg_repo.proofs.Least.{noted-more}
use Rattle.qsg_repo.proofs.repository.Repo.least_noted.Goals as goal
use Rattle.qsg_repo.proofs.repository.Repo.least_noted.Goals.{then-recovers, else-recovers}

pub loop-structure-preserved : goal.loop-structure-preserved
loop-structure-preserved c =
    let repo = c.args.self.now in
    let s = get_or structures c.loop-structure.structure-index One in
    let now = c.loop-structure.least in
    let more = noted-more c.args.member repo c.args.first now structures c.loop-structure.structure-index One c.loop-structure-test.true c.loop-structure.invariant in
    elim c.if-recovers.branch [
      | then-recovers w ↦ w.least-is ∙ w.min-least.ensures ∙ ap (min now) w.noted_page.ensures ∙ ap (λ o. min now (noted_page c.args.member o)) w.note.ensures ∙ ap (λ b. least now (map (λ k. noted_page c.args.member (note_at k repo)) (cond b (s ∷ []) []))) (sym w.if-recovers.true ∙ c.recovers.ensures) ∙ more
      | else-recovers w ↦ w.least-is ∙ ap (λ b. least now (map (λ k. noted_page c.args.member (note_at k repo)) (cond b (s ∷ []) []))) (sym w.if-recovers.false ∙ c.recovers.ensures) ∙ more
    ]

pub returns : goal.returns
returns c =
    let whole : c.loop-structure.structure-index ≡ 4 = omega (arith, c.loop-structure-test.false, c.loop-structure.auto.structure-index-end) in
    rw whole at c.loop-structure.invariant
