-- each step of a request, of whatever kind
use Rattle.std.proofs.Common.{◌≡◌, ℕ, List, true, Some, Ok, Err, refl, sym, ap, subst}
use Rattle.std.specs.List.{AllByRecursion}
use Rattle.qsg_num.specs.declared.seats.Member.{Member}
use Rattle.qsg_num.specs.declared.seats.StructNo.{StructNo}
use Rattle.qsg_num.specs.declared.seats.TaskNo.{TaskNo}
use Rattle.qsg_model.specs.declared.history.Op.{Op}
use Rattle.qsg_requests.specs.declared.replies.Turn.{Turn}
use Rattle.qsg_requests.specs.declared.words.Request.{Request}
use Rattle.qsg_requests.specs.declared.words.Request.TheVariants as request
use Rattle.qsg_group.specs.declared.tasks.Task.{Task}
use Rattle.qsg_manager.specs.Storage.{task_at}
use Rattle.qsg_logs.specs.Held.{is_open}
use Rattle.qsg_logs.specs.Kept.{KeptLog, log_in, with_log}
use Rattle.qsg_parts.specs.Owned.{Owned, HasMember}
use Rattle.qsg_steady.specs.Steady.{IsLawful, IsSteady}
use Rattle.qsg_requests.specs.declared.words.PutWords.{PutWords}
use Rattle.qsg_put.specs.declared.phases.Phase.{Phase as PutPhase}
use Rattle.qsg_put.specs.declared.phases.Phase.TheVariants as put_phase
use Rattle.qsg_put.specs.Steps.{Next as NextPut}
use Rattle.qsg_put.specs.Works.{Work as PutWork}
use Rattle.qsg_get.specs.declared.phases.Phase.{Phase as GetPhase}
use Rattle.qsg_get.specs.declared.phases.Phase.TheVariants as get_phase
use Rattle.qsg_get.specs.Steps.{Next as NextGet}
use Rattle.qsg_get.specs.Works.{Work as GetWork, IsOwn}
use Rattle.qsg_commit.specs.declared.phases.Phase.{Phase as EndPhase}
use Rattle.qsg_commit.specs.declared.phases.Phase.TheVariants.{Latch, Pages, Settle, Publish, GiveUp, Undo}
use Rattle.qsg_commit.specs.declared.phases.StepError.TheVariants.{LogFailed}
use Rattle.qsg_commit.specs.Next.{after_settle, after_publish, after_undo, after_give_up, NextAt}
use Rattle.qsg_commit.specs.Pending.{pending}
use Rattle.qsg_commit.specs.Works.{Work as EndWork}
use Rattle.qsg_works.specs.declared.work.Work.{Work}
use Rattle.qsg_works.specs.declared.work.Work.TheVariants.{Put, Get, Commit}
use Rattle.qsg_works.specs.Steps.{begun, NextWork}
use Rattle.qsg_fit.specs.Fits.{FitsPut, FitsGet, member_of, task_of}
use Rattle.qsg_fit.specs.Outcomes.{FitsEnd}
use Rattle.qsg_fit.specs.Requests.{IsOwnEnd, IsRequestOf, has_end_begun, has_begun}
use Rattle.qsg_steady.specs.Standing.{Stand, stand}
use Rattle.qsg_answered.specs.Fits.{HoldsEnd, Holds, AreInside}
use Rattle.qsg_answered.proofs.Committing.{in_phase, EndMoves, latch_moves, page_moves}
use Rattle.qsg_answered.proofs.Ending.{end_is, settle_moves, publish_moves, undo_moves, give_up_moves}
use Rattle.qsg_answered.proofs.Gets.{get_moves}
use Rattle.qsg_answered.proofs.Outcomes.{Moves}
use Rattle.qsg_answered.proofs.Puts.{HasPutUnit, put_moves}

-- what the lemmas ask of a request
abbrev IsReadyEnd : Member → Task → EndPhase → Type 0
IsReadyEnd m task phase = IsOwnEnd m phase × FitsEnd task phase

abbrev pub IsReady : Work → Owned → Type 0
IsReady (Put w) p = HasMember w.member p × HasPutUnit (task_at w.member w.task p.managers) w.phase
IsReady (Get w) p = HasMember w.member p × IsOwn w.member w.phase
IsReady (Commit w) p = HasMember w.member p × IsReadyEnd w.member (task_at w.member w.task p.managers) w.phase

own_get : (m : Member) (s : Stand) (phase : GetPhase) → FitsGet m s phase → IsOwn m phase
own_get m s get_phase.Check fits = tt
own_get m s (get_phase.Connect u terms) fits = fits.own
own_get m s (get_phase.Take u terms epoch) fits = fits.own

own_put : (m : Member) (words : PutWords) (s : Stand) (phase : PutPhase) → FitsPut m words s phase → HasPutUnit s.task phase
own_put m words s put_phase.Check fits = tt
own_put m words s (put_phase.Connect u terms) fits = tt
own_put m words s (put_phase.Write u terms epoch) fits = ap (λ (z : Task). z.unit) fits.holds

-- a request that fits is ready
pub ready_of : (work : Work) (p : Owned) → IsRequestOf work p → IsReady work p
ready_of (Put w) p fits = (fits.member, own_put w.member w.words (stand w.member w.task p) w.phase fits.stands)
ready_of (Get w) p fits = (fits.member, own_get w.member (stand w.member w.task p) w.phase fits.stands)
ready_of (Commit w) p fits = (fits.member, (fits.own, fits.stands))

-- so is one before its first step, where its task's unit is open
pub ready_first : (m : Member) (t : TaskNo) (asked : Request) (p : Owned) → HasMember m p → is_open (task_at m t p.managers).stage ≡ true → IsReady (begun m t asked) p
ready_first m t (request.Put words) p has ready = (has, tt)
ready_first m t (request.Get queue select) p has ready = (has, tt)
ready_first m t request.Commit p has ready = (has, (tt, ready))
ready_first m t request.Backout p has ready = (has, (tt, ready))

-- ---- a step that doesn't fail

put_next : (a b : ℕ) (ops : List (StructNo × Op)) (p q : Owned) (old new : PutWork) (turn : Turn) → IsSteady a b p → IsReady (Put old) p → Holds p.objects p.history.items (task_at old.member old.task p.managers) ops (Some (Put old))
    → NextWork (Put old) p (Ok turn) (Put new) q → Moves old.member old.task ops (Put old) (Put new) p q turn
put_next a b ops p q old new turn s ready holds next =
    let made = put_moves a b ops p old s ready.0 holds.0 holds.1 ready.1 in
    let there = subst (λ (x : NextPut). Moves old.member old.task ops (Put old) (Put (record old { phase = x.phase })) p x.parts x.turn) (sym next.1) made in
    subst (λ (x : PutWork). Moves old.member old.task ops (Put old) (Put x) p q turn) (sym next.0) there

get_next : (a b : ℕ) (ops : List (StructNo × Op)) (p q : Owned) (old new : GetWork) (turn : Turn) → IsSteady a b p → IsLawful p → IsReady (Get old) p → AllByRecursion AreInside p.structures
    → Holds p.objects p.history.items (task_at old.member old.task p.managers) ops (Some (Get old)) → NextWork (Get old) p (Ok turn) (Get new) q → Moves old.member old.task ops (Get old) (Get new) p q turn
get_next a b ops p q old new turn s l ready inside holds next =
    let made = get_moves a b ops p old s l ready.0 ready.1 holds inside in
    let there = subst (λ (x : NextGet). Moves old.member old.task ops (Get old) (Get (record old { phase = x.phase })) p x.parts x.turn) (sym next.1) made in
    subst (λ (x : GetWork). Moves old.member old.task ops (Get old) (Get x) p q turn) (sym next.0) there

end_at : (a b : ℕ) (m : Member) (t : TaskNo) (ops : List (StructNo × Op)) (p q : Owned) (before phase : EndPhase) (turn : Turn) → IsSteady a b p → IsLawful p → HasMember m p → IsOwnEnd m before → FitsEnd (task_at m t p.managers) before
    → HoldsEnd p.history.items (task_at m t p.managers) ops before → NextAt m t before p (Ok turn) phase q → EndMoves m t ops before p turn phase q
end_at a b m t ops p q Latch phase turn s l has own fits holds next = latch_moves a b m t ops p q turn phase s has holds next
end_at a b m t ops p q (Pages u count) phase turn s l has own fits holds next = page_moves a b m t ops p q u count turn phase s l has own fits holds.0 holds.1 next
end_at a b m t ops p q (Settle u count) phase turn s l has own fits holds next = end_is m t ops (Settle u count) p turn phase q (after_settle t u count p) next (settle_moves a b m t ops p u count s has own holds)
end_at a b m t ops p q (Publish u count) phase turn s l has own fits holds next = end_is m t ops (Publish u count) p turn phase q (after_publish t u count p) next (publish_moves a b m t ops p u count s has own holds.committed)
end_at a b m t ops p q GiveUp phase turn s l has own fits holds next = end_is m t ops GiveUp p turn phase q (after_give_up t (pending (task_at m t p.managers)) p) next (give_up_moves a b m t ops p s l has fits holds)
end_at a b m t ops p q (Undo u count) phase turn s l has own fits holds next =
    end_is m t ops (Undo u count) p turn phase q (after_undo t u count (Undo u count) p) next
    (undo_moves a b m t ops p u count s l has own (ap (λ (z : Task). z.unit) fits.is) holds.0 holds.1)

end_next : (a b : ℕ) (ops : List (StructNo × Op)) (p q : Owned) (old new : EndWork) (turn : Turn) → IsSteady a b p → IsLawful p → IsReady (Commit old) p → Holds p.objects p.history.items (task_at old.member old.task p.managers) ops (Some (Commit old))
    → NextWork (Commit old) p (Ok turn) (Commit new) q → Moves old.member old.task ops (Commit old) (Commit new) p q turn
end_next a b ops p q old new turn s l ready holds next =
    let same : new ≡ in_phase old.member old.task new.phase = λ i. record { member = next.member i; task = next.task i; phase = new.phase } in
    subst (λ (x : EndWork). Moves old.member old.task ops (Commit old) (Commit x) p q turn) (sym same)
    (end_at a b old.member old.task ops p q old.phase new.phase turn s l ready.0 ready.1.0 ready.1.1 holds next.next)

pub work_moves : (a b : ℕ) (ops : List (StructNo × Op)) (p q : Owned) (before work : Work) (turn : Turn) → IsSteady a b p → IsLawful p → IsReady before p → AllByRecursion AreInside p.structures
    → Holds p.objects p.history.items (task_at (member_of before) (task_of before) p.managers) ops (Some before) → NextWork before p (Ok turn) work q → Moves (member_of before) (task_of before) ops before work p q turn
work_moves a b ops p q (Put old) (Put new) turn s l ready inside holds next = put_next a b ops p q old new turn s ready holds next
work_moves a b ops p q (Get old) (Get new) turn s l ready inside holds next = get_next a b ops p q old new turn s l ready inside holds next
work_moves a b ops p q (Commit old) (Commit new) turn s l ready inside holds next = end_next a b ops p q old new turn s l ready holds next
work_moves a b ops p q before work turn s l ready inside holds next = absurd next

-- ---- a page that failed

-- nothing but a log changed
pub record HasFailed (before work : Work) (p q : Owned) : Type 0 where
  pub logs : List KeptLog
  pub work_is : work ≡ before
  pub parts_are : q ≡ record p { logs = logs }
  pub begun : has_begun before ≡ true

failed_end : (m : Member) (t : TaskNo) (p q : Owned) (before phase : EndPhase) → NextAt m t before p (Err LogFailed) phase q → (phase ≡ before) × ((logs : List KeptLog) × (q ≡ record p { logs = logs })) × (has_end_begun before ≡ true)
failed_end m t p q (Pages u count) phase next = (next.0, (with_log u.member (log_in u.member q.logs) p.logs, next.1.parts), refl)
failed_end m t p q Latch phase next = absurd next
failed_end m t p q (Settle u count) phase next = absurd next
failed_end m t p q (Publish u count) phase next = absurd next
failed_end m t p q GiveUp phase next = absurd next
failed_end m t p q (Undo u count) phase next = absurd next

pub failed_is : (p q : Owned) (before work : Work) → NextWork before p (Err LogFailed) work q → HasFailed before work p q
failed_is p q (Commit old) (Commit new) next =
    let found = failed_end old.member old.task p q old.phase new.phase next.next in
    let same : new ≡ old = λ i. record { member = next.member i; task = next.task i; phase = found.0 i } in
    record { logs = found.1.0; work_is = ap (λ (x : EndWork). Commit x) same; parts_are = found.1.1; begun = found.2 }
failed_is p q (Put old) (Put new) next = absurd next
failed_is p q (Put old) (Get new) next = absurd next
failed_is p q (Put old) (Commit new) next = absurd next
failed_is p q (Get old) (Put new) next = absurd next
failed_is p q (Get old) (Get new) next = absurd next
failed_is p q (Get old) (Commit new) next = absurd next
failed_is p q (Commit old) (Put new) next = absurd next
failed_is p q (Commit old) (Get new) next = absurd next
