-- each step of a request leaves fewer of it, whatever its kind, and the other tasks as they stood
use Rattle.std.proofs.Common.{◌≡◌, ℕ, ◌+◌, ◌^◌, ◌<◌, ◌≤◌, true, refl, sym, ap, subst, ◌∙◌, arith}
use Rattle.std.specs.Prelude.{Ok, Err}
use Rattle.qsg_num.specs.declared.seats.Member.{Member}
use Rattle.qsg_num.specs.declared.seats.TaskNo.{TaskNo}
use Rattle.qsg_num.specs.declared.ids.Actor.TheVariants as actor
use Rattle.qsg_num.specs.declared.ids.UnitName.{UnitName}
use Rattle.qsg_num.specs.Seats.{member_number, task_number}
use Rattle.qsg_requests.specs.declared.replies.Turn.{Turn}
use Rattle.qsg_requests.specs.declared.replies.Turn.TheVariants.{More}
use Rattle.qsg_requests.specs.declared.words.Request.{Request}
use Rattle.qsg_requests.specs.declared.words.Request.TheVariants as request
use Rattle.qsg_group.specs.declared.tasks.Task.{Task}
use Rattle.qsg_group.specs.Observers.{is_hardening}
use Rattle.qsg_manager.specs.Storage.{task_at}
use Rattle.qsg_logs.specs.Held.{is_open}
use Rattle.qsg_parts.specs.Owned.{Owned, HasMember}
use Rattle.qsg_steady.specs.Actions.{IsLogKept}
use Rattle.qsg_steady.specs.Standing.{stand}
use Rattle.qsg_steady.specs.Steady.{IsSteady}
use Rattle.qsg_steady.proofs.Acting.{member_five}
use Rattle.qsg_steady.proofs.Gives.{page_in_hand, hardens_alone}
use Rattle.qsg_put.specs.Steps.{Next as PutNext}
use Rattle.qsg_get.specs.declared.phases.Phase.{Phase as GetPhase}
use Rattle.qsg_get.specs.declared.phases.Phase.TheVariants as get_phase
use Rattle.qsg_get.specs.Steps.{Next as GetNext}
use Rattle.qsg_get.specs.Works.{IsOwn}
use Rattle.qsg_commit.specs.declared.phases.Phase.{Phase}
use Rattle.qsg_commit.specs.declared.phases.Phase.TheVariants.{Latch, Pages, Settle, Publish, GiveUp, Undo}
use Rattle.qsg_commit.specs.declared.phases.StepError.TheVariants.{LogFailed}
use Rattle.qsg_commit.specs.Committing.{take_answer, IsFailedPage}
use Rattle.qsg_commit.specs.Next.{Next, after_page, after_settle, after_publish, after_undo, NextAt}
use Rattle.qsg_commit.specs.Pending.{pending}
use Rattle.qsg_works.specs.declared.work.Work.{Work}
use Rattle.qsg_works.specs.declared.work.Work.TheVariants.{Put, Get, Commit}
use Rattle.qsg_works.specs.InHand.{IsOther}
use Rattle.qsg_works.specs.Steps.{owner, begun, NextWork}
use Rattle.qsg_fit.specs.Fits.{FitsGet, member_of, task_of}
use Rattle.qsg_fit.specs.Outcomes.{FitsEnd, IsHardening}
use Rattle.qsg_fit.specs.Requests.{IsOwnEnd, IsEndOf, IsRequestOf}
use Rattle.qsg_pace.specs.Pace.{left_of_put, left_of_get, left_of_run, marks_left, left_of, whole}
use Rattle.qsg_pace.proofs.Looking.{IsBeside}
use Rattle.qsg_pace.proofs.Requests.{Lowers, put_lowers, put_beside, get_lowers, get_beside}
use Rattle.qsg_pace.proofs.Ends.{left_at, Ends, IsThere, settle_ends, publish_ends, undo_ends, IsWriting, page_ends, IsStill, failed_still}
use Rattle.qsg_pace.proofs.Latch.{latch_step, give_up_step}

-- ---- a COMMIT or BACKOUT

-- at most one unit of a member is being written
writing : (a b : ℕ) (p : Owned) (m : Member) (t : TaskNo) (u : UnitName) → IsSteady a b p → HasMember m p → IsHardening u (task_at m t p.managers) → IsWriting m t p
writing a b p m t u s has own =
    let hardens = ap (λ (x : Task). is_hardening x.stage) own.is in
    record { hardens = hardens; hand = page_in_hand a b p m t s has hardens; only = λ w also. hardens_alone a b p m t w s has hardens also }

abbrev EndsBy : Member → TaskNo → Owned → Phase → Next → Type 0
EndsBy m t p old n = Ends m t p n.parts n.turn old n.phase

end_goes : (a b : ℕ) (p q : Owned) (m : Member) (t : TaskNo) (phase new : Phase) (turn : Turn) → IsSteady a b p → a < 2 ^ 30 → IsThere m p → IsLogKept m p → IsOwnEnd m phase → FitsEnd (task_at m t p.managers) phase → NextAt m t phase p (Ok turn) new q → Ends m t p q turn phase new
end_goes a b p q m t Latch new turn s few there kept own fits next = latch_step a b p q m t (take_answer m t p) turn new s few there kept fits refl next
end_goes a b p q m t (Pages u count) new turn s few there kept own fits next =
    let done = next.0 in
    let made = subst (λ (k : Member). IsThere k p → IsWriting k t p → Ends k t p q More (Pages u count) (after_page done u count)) own (λ h w. page_ends p q t u count done h w next.3) there (writing a b p m t u s there.has fits) in
    subst (λ (x : Turn). Ends m t p q x (Pages u count) new) (sym next.1) (subst (λ (x : Phase). Ends m t p q More (Pages u count) x) (sym next.2) made)
end_goes a b p q m t (Settle u count) new turn s few there kept own fits next =
    subst (EndsBy m t p (Settle u count)) (sym next) (subst (λ (k : Member). IsThere k p → EndsBy k t p (Settle u count) (after_settle t u count p)) own (settle_ends p t u count) there)
end_goes a b p q m t (Publish u count) new turn s few there kept own fits next =
    subst (EndsBy m t p (Publish u count)) (sym next) (subst (λ (k : Member). EndsBy k t p (Publish u count) (after_publish t u count p)) own (publish_ends p t u count))
end_goes a b p q m t GiveUp new turn s few there kept own fits next =
    subst (EndsBy m t p GiveUp) (sym next) (give_up_step a b p m t (pending (task_at m t p.managers)) s few there kept fits refl)
end_goes a b p q m t (Undo u count) new turn s few there kept own fits next =
    subst (EndsBy m t p (Undo u count)) (sym next) (subst (λ (k : Member). IsThere k p → EndsBy k t p (Undo u count) (after_undo t u count (Undo u count) p)) own (undo_ends p t u count) there)

end_fails : (a b : ℕ) (p q : Owned) (m : Member) (t : TaskNo) (phase new : Phase) → IsSteady a b p → HasMember m p → IsOwnEnd m phase → FitsEnd (task_at m t p.managers) phase → NextAt m t phase p (Err LogFailed) new q → IsStill m t p q phase new
end_fails a b p q m t Latch new s has own fits next = absurd next
end_fails a b p q m t (Pages u count) new s has own fits next =
    subst (λ (x : Phase). IsStill m t p q (Pages u count) x) (sym next.0) (failed_still p q m t u count (writing a b p m t u s has fits) (subst (λ (k : Member). IsFailedPage k p q) own next.1))
end_fails a b p q m t (Settle u count) new s has own fits next = absurd next
end_fails a b p q m t (Publish u count) new s has own fits next = absurd next
end_fails a b p q m t GiveUp new s has own fits next = absurd next
end_fails a b p q m t (Undo u count) new s has own fits next = absurd next

-- ---- a request of any kind

-- what a step looks at of how its request fits
abbrev pub IsPaced : Work → Owned → Type 0
IsPaced (Put work) p = Unit {0}
IsPaced (Get work) p = IsOwn work.member work.phase
IsPaced (Commit work) p = IsEndOf work p

pub begun_paced : (m : Member) (t : TaskNo) (r : Request) (p : Owned) → HasMember m p → IsLogKept m p → is_open (task_at m t p.managers).stage ≡ true → IsPaced (begun m t r) p
begun_paced m t (request.Put words) p has kept ready = tt
begun_paced m t (request.Get queue select) p has kept ready = tt
begun_paced m t request.Commit p has kept ready = record { member = has; log = kept; own = tt; stands = ready }
begun_paced m t request.Backout p has kept ready = record { member = has; log = kept; own = tt; stands = ready }

get_own : (m : Member) (t : TaskNo) (phase : GetPhase) (p : Owned) → FitsGet m (stand m t p) phase → IsOwn m phase
get_own m t get_phase.Check p fits = tt
get_own m t (get_phase.Connect u terms) p fits = fits.own
get_own m t (get_phase.Take u terms epoch) p fits = fits.own

pub fit_paced : (work : Work) (p : Owned) → IsRequestOf work p → IsPaced work p
fit_paced (Put work) p fits = tt
fit_paced (Get work) p fits = get_own work.member work.task work.phase p fits.stands
fit_paced (Commit work) p fits = fits

pub begun_whole : (m : Member) (t : TaskNo) (r : Request) (p : Owned) → left_of p (begun m t r) ≤ whole
begun_whole m t (request.Put words) p = omega arith
begun_whole m t (request.Get queue select) p = omega arith
begun_whole m t request.Commit p = omega arith
begun_whole m t request.Backout p = omega arith

pub begun_member : (m : Member) (t : TaskNo) (r : Request) → member_of (begun m t r) ≡ m
begun_member m t (request.Put words) = refl
begun_member m t (request.Get queue select) = refl
begun_member m t request.Commit = refl
begun_member m t request.Backout = refl

pub begun_task : (m : Member) (t : TaskNo) (r : Request) → task_of (begun m t r) ≡ t
begun_task m t (request.Put words) = refl
begun_task m t (request.Get queue select) = refl
begun_task m t request.Commit = refl
begun_task m t request.Backout = refl

pub record Goes (m : Member) (t : TaskNo) (p q : Owned) (turn : Turn) (old new : Work) : Type 0 where
  pub beside : IsBeside m t p q
  pub lowers : Lowers turn (left_of q new) (left_of p old)

pub work_goes : (a b : ℕ) (p q : Owned) (old new : Work) (turn : Turn) → IsSteady a b p → a < 2 ^ 30 → IsPaced old p → NextWork old p (Ok turn) new q → Goes (member_of old) (task_of old) p q turn old new
work_goes a b p q (Put old) (Put new) turn s few paced next = record {
  beside = subst (λ (n : PutNext). IsBeside old.member old.task p n.parts) (sym next.1) (put_beside old.member old.task old.words p old.phase);
  lowers = subst (λ (n : PutNext). Lowers n.turn (left_of_put n.phase) (left_of_put old.phase)) (sym next.1) (put_lowers old.member old.task old.words p old.phase);
}
work_goes a b p q (Get old) (Get new) turn s few paced next = record {
  beside = subst (λ (n : GetNext). IsBeside old.member old.task p n.parts) (sym next.1) (get_beside old.member old.task old.queue old.select p old.phase paced);
  lowers = subst (λ (n : GetNext). Lowers n.turn (left_of_get n.phase) (left_of_get old.phase)) (sym next.1) (get_lowers old.member old.task old.queue old.select p old.phase);
}
work_goes a b p q (Commit old) (Commit new) turn s few paced next =
    let there : IsThere old.member p = record { has = paced.member; five = member_five a b p old.member s paced.member } in
    let ends = end_goes a b p q old.member old.task old.phase new.phase turn s few there paced.log paced.own paced.stands next.next in
    let same : left_at new.member new.task new.phase q ≡ left_at old.member old.task new.phase q = λ i. left_at (next.member i) (next.task i) new.phase q in
    record { beside = ends.beside; lowers = subst (λ (n : ℕ). Lowers turn n (left_at old.member old.task old.phase p)) (sym same) ends.lowers }
work_goes a b p q (Put old) (Get new) turn s few paced next = absurd next
work_goes a b p q (Put old) (Commit new) turn s few paced next = absurd next
work_goes a b p q (Get old) (Put new) turn s few paced next = absurd next
work_goes a b p q (Get old) (Commit new) turn s few paced next = absurd next
work_goes a b p q (Commit old) (Put new) turn s few paced next = absurd next
work_goes a b p q (Commit old) (Get new) turn s few paced next = absurd next

pub record Fails (m : Member) (t : TaskNo) (p q : Owned) (old new : Work) : Type 0 where
  pub beside : IsBeside m t p q
  pub managers : q.managers ≡ p.managers
  pub same : left_of q new ≤ left_of p old

pub work_fails : (a b : ℕ) (p q : Owned) (old new : Work) → IsSteady a b p → IsPaced old p → NextWork old p (Err LogFailed) new q → Fails (member_of old) (task_of old) p q old new
work_fails a b p q (Put old) (Put new) s paced next = absurd next
work_fails a b p q (Get old) (Get new) s paced next = absurd next
work_fails a b p q (Commit old) (Commit new) s paced next =
    let still = end_fails a b p q old.member old.task old.phase new.phase s paced.member paced.own paced.stands next.next in
    let same : left_at new.member new.task new.phase q ≡ left_at old.member old.task new.phase q = λ i. left_at (next.member i) (next.task i) new.phase q in
    record { beside = still.beside; managers = still.managers; same = omega (arith, same, still.same) }
work_fails a b p q (Put old) (Get new) s paced next = absurd next
work_fails a b p q (Put old) (Commit new) s paced next = absurd next
work_fails a b p q (Get old) (Put new) s paced next = absurd next
work_fails a b p q (Get old) (Commit new) s paced next = absurd next
work_fails a b p q (Commit old) (Put new) s paced next = absurd next
work_fails a b p q (Commit old) (Get new) s paced next = absurd next

-- ---- the requests of other tasks

end_same : (m : Member) (t : TaskNo) (p q : Owned) (k : Member) (w : TaskNo) (phase : Phase) → IsBeside m t p q → IsOther m t k w → FitsEnd (task_at k w p.managers) phase → left_at k w phase q ≡ left_at k w phase p
end_same m t p q k w Latch beside other fits = refl
end_same m t p q k w (Pages u count) beside other fits =
    let tasks = beside.tasks k w other in
    let hands = beside.hands k w other (ap (λ (x : Task). is_hardening x.stage) fits.is) in
    λ i. left_of_run (hands i) + (marks_left (tasks i) + 2)
end_same m t p q k w (Settle u count) beside other fits = let tasks = beside.tasks k w other in λ i. marks_left (tasks i) + 2
end_same m t p q k w (Publish u count) beside other fits = refl
end_same m t p q k w GiveUp beside other fits = refl
end_same m t p q k w (Undo u count) beside other fits = let tasks = beside.tasks k w other in λ i. marks_left (tasks i) + 1

pub owned_member : (k : Member) (w : TaskNo) (work : Work) → owner work ≡ actor.Task k w → member_of work ≡ k
owned_member k w (Put work) is = cc
owned_member k w (Get work) is = cc
owned_member k w (Commit work) is = cc

pub owned_task : (k : Member) (w : TaskNo) (work : Work) → owner work ≡ actor.Task k w → task_of work ≡ w
owned_task k w (Put work) is = cc
owned_task k w (Get work) is = cc
owned_task k w (Commit work) is = cc

-- as much is left of them as was
pub same_left : (m : Member) (t : TaskNo) (p q : Owned) (k : Member) (w : TaskNo) (work : Work) → IsBeside m t p q → IsOther m t k w → owner work ≡ actor.Task k w → IsRequestOf work p → left_of q work ≡ left_of p work
same_left m t p q k w (Put work) beside other is fits = refl
same_left m t p q k w (Get work) beside other is fits = refl
same_left m t p q k w (Commit work) beside other is fits =
    let member = owned_member k w (Commit work) is in
    let task = owned_task k w (Commit work) is in
    end_same m t p q work.member work.task work.phase beside (λ e f. other (sym (ap member_number member) ∙ e) (sym (ap task_number task) ∙ f)) fits.stands
