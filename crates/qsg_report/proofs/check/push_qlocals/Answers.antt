use Rattle.std.proofs.Common.{◌≡◌, ℕ, ◌+◌, ◌<◌, List, [], ◌∷◌, ◌++◌, length, take, suc, zero, sym, ap, ◌∙◌, append_assoc, add-one, arith}
use Rattle.std.specs.Prelude.{slice_get}
use Rattle.std.specs.List.{flat_map}
use Rattle.std.proofs.lemmas.List.{append-nil}
use Rattle.qsg_objects.specs.declared.registry.Queue.{Queue}
use Rattle.qsg_report.specs.Check.{qlocal_text, placed_text}
use Rattle.qsg_report.proofs.check.push_qlocals.Goals as goal

one_more : (qs : List Queue) (at : ℕ) → at < length qs → flat_map qlocal_text (take (suc at) qs) ≡ flat_map qlocal_text (take at qs) ++ placed_text (slice_get qs at)
one_more [] at within = absurd (omega (arith, within))
one_more (q ∷ qs) zero within = append-nil (qlocal_text q)
one_more (q ∷ qs) (suc at) within =
    ap (λ (t : List ℕ). qlocal_text q ++ t) (one_more qs at (omega (arith, within))) ∙ sym (append_assoc (qlocal_text q) (flat_map qlocal_text (take at qs)) (placed_text (slice_get qs at)))

step : (old now new : List ℕ) (qs : List Queue) (at : ℕ) → now ≡ old ++ flat_map qlocal_text (take at qs) → new ≡ now ++ placed_text (slice_get qs at) → at < length qs → new ≡ old ++ flat_map qlocal_text (take (at + 1) qs)
step old now new qs at so_far is within =
    rw add-one
    (is ∙ ap (λ (o : List ℕ). o ++ placed_text (slice_get qs at)) so_far
    ∙ append_assoc old (flat_map qlocal_text (take at qs)) (placed_text (slice_get qs at))
    ∙ ap (λ (t : List ℕ). old ++ t) (sym (one_more qs at within)))

pub loop-at-preserved : goal.loop-at-preserved
loop-at-preserved c =
    step c.args.out.now.items c.loop-at.out.items c.push_qlocal_at.new.out.items c.args.objects.now.queues c.loop-at.at c.loop-at.invariant c.in_ok-push_qlocal_at.ensures
    (let count = c.queue_count-at-end.ensures.value in let test = c.loop-at-test.true in omega (arith, count, test))
