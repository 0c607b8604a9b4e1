-- a step leaves a work to its owner, and its request as it was
use Rattle.std.proofs.Common.{◌≡◌, ℕ, Bool, true, false, cond, Option, Some, None, Result, Ok, Err, refl, ap, ◌∙◌}
use Rattle.qsg_num.specs.declared.seats.Member.{Member}
use Rattle.qsg_num.specs.declared.seats.TaskNo.{TaskNo}
use Rattle.qsg_num.specs.declared.ids.Actor.TheVariants as actor
use Rattle.qsg_num.specs.declared.ids.UnitName.{UnitName}
use Rattle.qsg_requests.specs.declared.replies.Turn.{Turn}
use Rattle.qsg_requests.specs.declared.words.Request.TheVariants as request
use Rattle.qsg_manager.specs.Storage.{task_at}
use Rattle.qsg_parts.specs.Owned.{Owned}
use Rattle.qsg_put.specs.Works.{Work as PutWork}
use Rattle.qsg_get.specs.Works.{Work as GetWork}
use Rattle.qsg_commit.specs.declared.phases.Phase.{Phase}
use Rattle.qsg_commit.specs.declared.phases.Phase.TheVariants as end_phase
use Rattle.qsg_commit.specs.declared.phases.StepError.{StepError}
use Rattle.qsg_commit.specs.declared.phases.StepError.TheVariants.{NoMemory, LogFailed}
use Rattle.qsg_commit.specs.declared.phases.Taken.{Taken}
use Rattle.qsg_commit.specs.declared.phases.Taken.TheVariants.{Nothing, Busy, Begun}
use Rattle.qsg_commit.specs.Committing.{take_answer}
use Rattle.qsg_commit.specs.Next.{Next, LatchStep, after_page, after_give_up, NextAt}
use Rattle.qsg_commit.specs.Pending.{pending}
use Rattle.qsg_works.specs.declared.work.Work.{Work}
use Rattle.qsg_works.specs.declared.work.Work.TheVariants.{Put, Get, Commit}
use Rattle.qsg_works.specs.Steps.{owner, NextPut, NextGet, NextWork}
use Rattle.qsg_sound.specs.Sound.{ended_by, request_in}

put_own : (old : PutWork) (p : Owned) (result : Result Turn StepError) (new : PutWork) (q : Owned) → NextPut old p result new q → owner (Put new) ≡ owner (Put old)
put_own old p (Ok turn) new q next = ap (λ (w : PutWork). actor.Task w.member w.task) next.0
put_own old p (Err NoMemory) new q next = ap (λ (w : PutWork). actor.Task w.member w.task) next.0
put_own old p (Err LogFailed) new q next = absurd next

get_own : (old : GetWork) (p : Owned) (result : Result Turn StepError) (new : GetWork) (q : Owned) → NextGet old p result new q → owner (Get new) ≡ owner (Get old)
get_own old p (Ok turn) new q next = ap (λ (w : GetWork). actor.Task w.member w.task) next.0
get_own old p (Err NoMemory) new q next = ap (λ (w : GetWork). actor.Task w.member w.task) next.0
get_own old p (Err LogFailed) new q next = absurd next

pub next_own : (before work : Work) (p q : Owned) (result : Result Turn StepError) → NextWork before p result work q → owner work ≡ owner before
next_own (Put old) (Put new) p q result next = put_own old p result new q next
next_own (Put old) (Get new) p q result next = absurd next
next_own (Put old) (Commit new) p q result next = absurd next
next_own (Get old) (Put new) p q result next = absurd next
next_own (Get old) (Get new) p q result next = get_own old p result new q next
next_own (Get old) (Commit new) p q result next = absurd next
next_own (Commit old) (Put new) p q result next = absurd next
next_own (Commit old) (Get new) p q result next = absurd next
next_own (Commit old) (Commit new) p q result next = λ i. actor.Task (next.member i) (next.task i)

put_asked : (old : PutWork) (p : Owned) (result : Result Turn StepError) (new : PutWork) (q : Owned) → NextPut old p result new q → request_in (Put new) ≡ request_in (Put old)
put_asked old p (Ok turn) new q next = ap (λ (w : PutWork). request.Put w.words) next.0
put_asked old p (Err NoMemory) new q next = ap (λ (w : PutWork). request.Put w.words) next.0
put_asked old p (Err LogFailed) new q next = absurd next

get_asked : (old : GetWork) (p : Owned) (result : Result Turn StepError) (new : GetWork) (q : Owned) → NextGet old p result new q → request_in (Get new) ≡ request_in (Get old)
get_asked old p (Ok turn) new q next = ap (λ (w : GetWork). request.Get w.queue w.select) next.0
get_asked old p (Err NoMemory) new q next = ap (λ (w : GetWork). request.Get w.queue w.select) next.0
get_asked old p (Err LogFailed) new q next = absurd next

latch_asked : (m : Member) (t : TaskNo) (taken : Taken) (p q : Owned) (turn : Turn) (phase : Phase) → LatchStep m t taken p turn phase q → ended_by phase ≡ request.Commit
latch_asked m t Nothing p q turn phase step = ap ended_by step.1
latch_asked m t (Busy busy) p q turn phase step = ap ended_by step.1
latch_asked m t (Begun u count) p q turn phase step = ap ended_by step.1

paged_asked : (done : Bool) (u : UnitName) (count : ℕ) → ended_by (after_page done u count) ≡ request.Commit
paged_asked true u count = refl
paged_asked false u count = refl

settled_asked : (b : Bool) (u : UnitName) (count : ℕ) → ended_by (cond b (end_phase.Publish u count) (end_phase.Settle u count)) ≡ request.Commit
settled_asked true u count = refl
settled_asked false u count = refl

undone_asked : (b : Bool) (at : Phase) (u : UnitName) (count : ℕ) → ended_by at ≡ request.Backout → ended_by (cond b at (end_phase.Undo u count)) ≡ request.Backout
undone_asked true at u count is = is
undone_asked false at u count is = refl

given_asked : (t : TaskNo) (unit : Option (UnitName × ℕ)) (p : Owned) → ended_by (after_give_up t unit p).phase ≡ request.Backout
given_asked t None p = refl
given_asked t (Some (u, count)) p = undone_asked _ end_phase.GiveUp u count refl

end_asked : (m : Member) (t : TaskNo) (at : Phase) (p q : Owned) (result : Result Turn StepError) (phase : Phase) → NextAt m t at p result phase q → ended_by phase ≡ ended_by at
end_asked m t end_phase.Latch p q (Ok turn) phase next = latch_asked m t (take_answer m t p) p q turn phase next
end_asked m t end_phase.Latch p q (Err NoMemory) phase next = ap ended_by next.0
end_asked m t end_phase.Latch p q (Err LogFailed) phase next = absurd next
end_asked m t (end_phase.Pages u count) p q (Ok turn) phase next = ap ended_by next.2 ∙ paged_asked next.0 u count
end_asked m t (end_phase.Pages u count) p q (Err NoMemory) phase next = absurd next
end_asked m t (end_phase.Pages u count) p q (Err LogFailed) phase next = ap ended_by next.0
end_asked m t (end_phase.Settle u count) p q (Ok turn) phase next = ap (λ (n : Next). ended_by n.phase) next ∙ settled_asked _ u count
end_asked m t (end_phase.Settle u count) p q (Err e) phase next = absurd next
end_asked m t (end_phase.Publish u count) p q (Ok turn) phase next = ap (λ (n : Next). ended_by n.phase) next
end_asked m t (end_phase.Publish u count) p q (Err e) phase next = absurd next
end_asked m t end_phase.GiveUp p q (Ok turn) phase next = ap (λ (n : Next). ended_by n.phase) next ∙ given_asked t (pending (task_at m t p.managers)) p
end_asked m t end_phase.GiveUp p q (Err e) phase next = absurd next
end_asked m t (end_phase.Undo u count) p q (Ok turn) phase next = ap (λ (n : Next). ended_by n.phase) next ∙ undone_asked _ (end_phase.Undo u count) u count refl
end_asked m t (end_phase.Undo u count) p q (Err e) phase next = absurd next

pub next_asked : (before work : Work) (p q : Owned) (result : Result Turn StepError) → NextWork before p result work q → request_in work ≡ request_in before
next_asked (Put old) (Put new) p q result next = put_asked old p result new q next
next_asked (Put old) (Get new) p q result next = absurd next
next_asked (Put old) (Commit new) p q result next = absurd next
next_asked (Get old) (Put new) p q result next = absurd next
next_asked (Get old) (Get new) p q result next = get_asked old p result new q next
next_asked (Get old) (Commit new) p q result next = absurd next
next_asked (Commit old) (Put new) p q result next = absurd next
next_asked (Commit old) (Get new) p q result next = absurd next
next_asked (Commit old) (Commit new) p q result next = end_asked old.member old.task old.phase p q result new.phase next.next
