-- what each step of a request keeps, whatever its kind
use Rattle.std.proofs.Common.{ℕ, ◌+◌, ◌≡◌, ◌≤◌, true, Ok, Err, refl, sym, ap, subst, ◌∙◌}
use Rattle.qsg_num.specs.declared.seats.Member.{Member}
use Rattle.qsg_num.specs.declared.seats.TaskNo.{TaskNo}
use Rattle.qsg_requests.specs.declared.replies.Turn.{Turn}
use Rattle.qsg_requests.specs.declared.replies.Turn.TheVariants.{More, Ended, Waits}
use Rattle.qsg_parts.specs.Owned.{Owned}
use Rattle.qsg_steady.specs.Actions.{IsLogKept}
use Rattle.qsg_steady.specs.Standing.{IsOther}
use Rattle.qsg_steady.proofs.Gives.{member_has}
use Rattle.qsg_put.specs.Steps as puts
use Rattle.qsg_put.specs.Works.{Work as PutWork}
use Rattle.qsg_get.specs.declared.phases.Phase.{Phase as GetPhase}
use Rattle.qsg_get.specs.declared.phases.Phase.TheVariants as getting
use Rattle.qsg_get.specs.Steps as gets
use Rattle.qsg_get.specs.Works.{Work as GetWork, IsOwn}
use Rattle.qsg_commit.specs.declared.phases.StepError.TheVariants.{NoMemory, LogFailed}
use Rattle.qsg_commit.specs.Next.{NextCommit}
use Rattle.qsg_commit.specs.Works.{Work as EndWork}
use Rattle.qsg_works.specs.declared.work.Work.{Work}
use Rattle.qsg_works.specs.declared.work.Work.TheVariants.{Put, Get, Commit}
use Rattle.qsg_works.specs.Steps.{NextPut, NextGet, NextWork, IsUnmade}
use Rattle.qsg_steady.specs.Standing.{Stand, stand}
use Rattle.qsg_fit.specs.Fits.{FitsGet, member_of, task_of}
use Rattle.qsg_fit.specs.Outcomes.{IsPlaced, IsPutOf, IsGetOf, KeepsPut, KeepsGet}
use Rattle.qsg_fit.specs.Requests.{IsEndOf, IsRequestOf, has_put_begun, has_get_begun, has_end_begun, IsSteadyIf, IsSteadyBeside, IsUndisturbed, GoesOn, KeepsRequest}
use Rattle.qsg_fit.proofs.Begun.{goes, put_begins, steady_at_put, get_begins, steady_at_get}
use Rattle.qsg_fit.proofs.Endings.{IsEndKept, KeepsEndAt, own_end, end_keeps, failed_end_keeps}
use Rattle.qsg_fit.proofs.Gets.{get_keeps}
use Rattle.qsg_fit.proofs.Puts.{put_keeps}
use Rattle.qsg_fit.proofs.Roomy.{steady_beside, request_fits}
use Rattle.qsg_fit.proofs.Still.{IsStill, still_within, put_still, get_still}
use Rattle.qsg_fit.proofs.Undisturbed.{undisturbed_by, other_fits}

-- ---- a put

put_by : (a b : ℕ) (p q : Owned) (old new : PutWork) (turn : Turn) → new ≡ record old { phase = new.phase } → IsPutOf old p → KeepsPut a b old.member old.task old.words p (record { turn = turn; phase = new.phase; parts = q })
    → IsStill p q → (goes turn ≡ true → has_put_begun new.phase ≡ true) → KeepsRequest a b (Put old) p turn (Put new) q
put_by a b p q old new More same put keeps is begins = record {
  steady = keeps.steady;
  begun = begins refl;
  fits = λ kept. subst (λ (w : PutWork). IsPutOf w q) (sym same) (record {
    member = member_has a (b + 1) q old.member keeps.steady (still_within old.member p q is put.member.manager);
    up = is.ups old.member ∙ put.up;
    log = kept;
    queue = subst (IsPlaced old.words.queue) (sym is.objects) put.queue;
    ids = put.ids;
    stands = keeps.fits_after;
  });
  undisturbed = undisturbed_by old.member old.task p q is keeps.spares;
}
put_by a b p q old new (Ended reply) same put keeps is begins = record { steady = keeps.steady; free = keeps.fits_after; undisturbed = undisturbed_by old.member old.task p q is keeps.spares }
put_by a b p q old new (Waits cause) same put keeps is begins = absurd keeps.steady

put_request : (a b : ℕ) (p q : Owned) (old new : PutWork) (turn : Turn) → a + b ≤ 2147483648 → IsSteadyIf (has_put_begun old.phase) a b p → IsPutOf old p → NextPut old p (Ok turn) new q → KeepsRequest a b (Put old) p turn (Put new) q
put_request a b p q old new turn bound s put next =
    put_by a b p q old new turn next.0 put
    (subst (KeepsPut a b old.member old.task old.words p) (sym next.1) (put_keeps a b p old bound (steady_at_put a b old.phase p s) put))
    (subst (λ (n : puts.Next). IsStill p n.parts) (sym next.1) (put_still old.member old.task old.words p old.phase put.member.manager))
    (subst (λ (n : puts.Next). goes n.turn ≡ true → has_put_begun n.phase ≡ true) (sym next.1) (put_begins old.member old.task old.words p old.phase))

-- ---- a get

get_by : (a b : ℕ) (p q : Owned) (old new : GetWork) (turn : Turn) → new ≡ record old { phase = new.phase } → IsGetOf old p → KeepsGet a b old.member old.task p (record { turn = turn; phase = new.phase; parts = q })
    → IsStill p q → (goes turn ≡ true → has_get_begun new.phase ≡ true) → KeepsRequest a b (Get old) p turn (Get new) q
get_by a b p q old new More same get keeps is begins = record {
  steady = keeps.steady;
  begun = begins refl;
  fits = λ kept. subst (λ (w : GetWork). IsGetOf w q) (sym same) (record {
    member = member_has a (b + 1) q old.member keeps.steady (still_within old.member p q is get.member.manager);
    up = is.ups old.member ∙ get.up;
    log = kept;
    queue = subst (IsPlaced old.queue) (sym is.objects) get.queue;
    stands = keeps.fits_after;
  });
  undisturbed = undisturbed_by old.member old.task p q is keeps.spares;
}
get_by a b p q old new (Ended reply) same get keeps is begins = record { steady = keeps.steady; free = keeps.fits_after; undisturbed = undisturbed_by old.member old.task p q is keeps.spares }
get_by a b p q old new (Waits cause) same get keeps is begins = absurd keeps.steady

get_own : (m : Member) (s : Stand) (phase : GetPhase) → FitsGet m s phase → IsOwn m phase
get_own m s getting.Check fits = tt
get_own m s (getting.Connect u terms) fits = fits.own
get_own m s (getting.Take u terms epoch) fits = fits.own

get_request : (a b : ℕ) (p q : Owned) (old new : GetWork) (turn : Turn) → IsSteadyIf (has_get_begun old.phase) a b p → IsGetOf old p → NextGet old p (Ok turn) new q → KeepsRequest a b (Get old) p turn (Get new) q
get_request a b p q old new turn s get next =
    get_by a b p q old new turn next.0 get
    (subst (KeepsGet a b old.member old.task p) (sym next.1) (get_keeps a b p old (steady_at_get a b old.phase p s) get))
    (subst (λ (n : gets.Next). IsStill p n.parts) (sym next.1) (get_still old.member old.task old.queue old.select p old.phase (get_own old.member (stand old.member old.task p) old.phase get.stands) get.member.manager))
    (subst (λ (n : gets.Next). goes n.turn ≡ true → has_get_begun n.phase ≡ true) (sym next.1) (get_begins old.member old.task old.queue old.select p old.phase))

-- ---- a COMMIT or BACKOUT

end_goes_on : (a b : ℕ) (p q : Owned) (old new : EndWork) → new.member ≡ old.member → new.task ≡ old.task → IsEndOf old p → IsEndKept a b old.member old.task p (record { turn = More; phase = new.phase; parts = q }) → GoesOn a b (Commit old) (Commit new) p q
end_goes_on a b p q old new member task end keeps = record {
  steady = keeps.keeps.steady;
  begun = keeps.begins refl;
  fits = λ kept. subst (λ (w : EndWork). IsEndOf w q) same (record {
    member = member_has a (b + 1) q old.member keeps.keeps.steady (still_within old.member p q keeps.still end.member.manager);
    log = kept;
    own = own_end a (b + 1) q old.member old.task new.phase keeps.keeps.steady keeps.keeps.fits_after;
    stands = keeps.keeps.fits_after;
  });
  undisturbed = undisturbed_by old.member old.task p q keeps.still keeps.keeps.spares;
}
  where
    same : record old { phase = new.phase } ≡ new
    same = λ i. record { member = sym member i; task = sym task i; phase = new.phase }

end_by : (a b : ℕ) (p q : Owned) (old new : EndWork) (turn : Turn) → new.member ≡ old.member → new.task ≡ old.task → IsEndOf old p → KeepsEndAt a b old.member old.task old.phase p turn new.phase q → KeepsRequest a b (Commit old) p turn (Commit new) q
end_by a b p q old new More member task end keeps = end_goes_on a b p q old new member task end keeps
end_by a b p q old new (Ended reply) member task end keeps = record { steady = keeps.keeps.steady; free = keeps.keeps.fits_after; undisturbed = undisturbed_by old.member old.task p q keeps.still keeps.keeps.spares }
end_by a b p q old new (Waits cause) member task end keeps = (ap Commit same, keeps.1)
  where
    same : new ≡ old
    same = λ i. record { member = member i; task = task i; phase = keeps.0 i }

end_request : (a b : ℕ) (p q : Owned) (old new : EndWork) (turn : Turn) → IsSteadyIf (has_end_begun old.phase) a b p → IsEndOf old p → NextCommit old p (Ok turn) new q → KeepsRequest a b (Commit old) p turn (Commit new) q
end_request a b p q old new turn s end next = end_by a b p q old new turn next.member next.task end (end_keeps a b p q old.member old.task old.phase turn new.phase s end.member end.log end.own end.stands next.next)

failed_end : (a b : ℕ) (p q : Owned) (old new : EndWork) → IsSteadyIf (has_end_begun old.phase) a b p → IsEndOf old p → NextCommit old p (Err LogFailed) new q → GoesOn a b (Commit old) (Commit new) p q
failed_end a b p q old new s end next = end_goes_on a b p q old new next.member next.task end (failed_end_keeps a b p q old.member old.task old.phase new.phase s end.member end.own end.stands next.next)

-- ---- whatever the kind

pub request_keeps : (answered busy : ℕ) (p q : Owned) (before work : Work) (turn : Turn) → answered + busy ≤ 2147483648 → IsSteadyBeside answered busy before p → IsRequestOf before p → NextWork before p (Ok turn) work q → KeepsRequest answered busy before p turn work q
request_keeps a b p q (Put old) (Put new) turn bound s fits next = put_request a b p q old new turn bound s fits next
request_keeps a b p q (Put old) (Get new) turn bound s fits next = absurd next
request_keeps a b p q (Put old) (Commit new) turn bound s fits next = absurd next
request_keeps a b p q (Get old) (Put new) turn bound s fits next = absurd next
request_keeps a b p q (Get old) (Get new) turn bound s fits next = get_request a b p q old new turn s fits next
request_keeps a b p q (Get old) (Commit new) turn bound s fits next = absurd next
request_keeps a b p q (Commit old) (Put new) turn bound s fits next = absurd next
request_keeps a b p q (Commit old) (Get new) turn bound s fits next = absurd next
request_keeps a b p q (Commit old) (Commit new) turn bound s fits next = end_request a b p q old new turn s fits next

pub failed_request_keeps : (answered busy : ℕ) (p q : Owned) (before work : Work) → IsSteadyBeside answered busy before p → IsRequestOf before p → NextWork before p (Err LogFailed) work q → GoesOn answered busy before work p q
failed_request_keeps a b p q (Put old) (Put new) s fits next = absurd next
failed_request_keeps a b p q (Put old) (Get new) s fits next = absurd next
failed_request_keeps a b p q (Put old) (Commit new) s fits next = absurd next
failed_request_keeps a b p q (Get old) (Put new) s fits next = absurd next
failed_request_keeps a b p q (Get old) (Get new) s fits next = absurd next
failed_request_keeps a b p q (Get old) (Commit new) s fits next = absurd next
failed_request_keeps a b p q (Commit old) (Put new) s fits next = absurd next
failed_request_keeps a b p q (Commit old) (Get new) s fits next = absurd next
failed_request_keeps a b p q (Commit old) (Commit new) s fits next = failed_end a b p q old new s fits next

pub roomy_steady_beside : (answered busy : ℕ) (p q : Owned) (before work : Work) → IsSteadyBeside answered busy before p → IsUnmade (Err NoMemory) before p work q → IsSteadyBeside answered busy before q
roomy_steady_beside = steady_beside

pub roomy_fits : (p q : Owned) (before work : Work) → IsRequestOf before p → IsUnmade (Err NoMemory) before p work q → IsRequestOf before q
roomy_fits = request_fits

pub undisturbed_fits : (p q : Owned) (m : Member) (t : TaskNo) (other : Work) → IsUndisturbed m t p q → IsOther m t (member_of other) (task_of other) → IsLogKept (member_of other) q → IsRequestOf other p → IsRequestOf other q
undisturbed_fits = other_fits
