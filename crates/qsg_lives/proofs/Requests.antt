-- steps of requests: what they do to structures, by the kind of the request
use Rattle.std.proofs.Common.{◌≡◌, inl, inr, ℕ, ◌+◌, ◌≤◌, Bool, true, false, List, [], ◌∷◌, length, zero, suc, Option, Some, None, Result, Ok, Err, cond, refl, sym, ap, subst}
use Rattle.std.specs.Prelude.{◌==◌, ◌&&◌, slice_get, IfSome}
use Rattle.std.specs.List.{AllByRecursion}
use Rattle.qsg_num.specs.declared.seats.Member.{Member}
use Rattle.qsg_num.specs.declared.seats.TaskNo.{TaskNo}
use Rattle.qsg_num.specs.declared.ids.UnitName.{UnitName}
use Rattle.qsg_num.specs.Seats.{member_number, structure_number}
use Rattle.qsg_lists.specs.declared.parts.Connection.{Connection}
use Rattle.qsg_lists.specs.declared.parts.Entry.{Entry}
use Rattle.qsg_lists.specs.declared.parts.Head.{Head}
use Rattle.qsg_lists.specs.declared.parts.Lost.{Lost}
use Rattle.qsg_lists.specs.declared.parts.Place.{Place}
use Rattle.qsg_lists.specs.declared.parts.Place.TheVariants.{Inline}
use Rattle.qsg_lists.specs.declared.parts.Seen.{Seen}
use Rattle.qsg_lists.specs.declared.parts.Selector.{Selector}
use Rattle.qsg_lists.specs.declared.parts.WriteWhy.{WriteWhy}
use Rattle.qsg_lists.specs.Structures.{ListStructure, is_active}
use Rattle.qsg_lists.specs.Writing.{room_refusal, lost_or, write_refusal}
use Rattle.qsg_logpage.specs.declared.writer.NoLog.{NoLog}
use Rattle.qsg_requests.specs.declared.replies.Reason.{Reason}
use Rattle.qsg_requests.specs.declared.replies.Turn.{Turn}
use Rattle.qsg_requests.specs.declared.words.PutWords.{PutWords}
use Rattle.qsg_group.specs.declared.tasks.Claim.{Claim}
use Rattle.qsg_group.specs.declared.tasks.Stage.{Stage}
use Rattle.qsg_group.specs.declared.tasks.Stage.TheVariants.{Open, Hardening, Committed, BackedOut}
use Rattle.qsg_group.specs.declared.tasks.Task.{Task}
use Rattle.qsg_manager.specs.Facilities.{structure_in}
use Rattle.qsg_manager.specs.Getting.{found_in}
use Rattle.qsg_manager.specs.Settles.{commits, next_by, next_claim}
use Rattle.qsg_manager.specs.Storage.{manager_in, task_at}
use Rattle.qsg_manager.specs.Units.{decided, with_backed_out}
use Rattle.qsg_parts.specs.Owned.{Owned}
use Rattle.qsg_steady.specs.Standing.{stand}
use Rattle.qsg_steady.specs.Steady.{IsWithin, IsLive, IsSteady}
use Rattle.qsg_put.specs.declared.checking.Terms.{Terms as PutTerms}
use Rattle.qsg_put.specs.declared.phases.Phase.{Phase as PutPhase}
use Rattle.qsg_put.specs.declared.phases.Phase.TheVariants as putting
use Rattle.qsg_put.specs.Messages.{head_of}
use Rattle.qsg_put.specs.Steps as puts
use Rattle.qsg_put.specs.Works.{Work as PutWork}
use Rattle.qsg_get.specs.declared.checking.Terms.{Terms as GetTerms}
use Rattle.qsg_get.specs.declared.phases.Phase.{Phase as GetPhase}
use Rattle.qsg_get.specs.declared.phases.Phase.TheVariants as getting
use Rattle.qsg_get.specs.Steps as gets
use Rattle.qsg_get.specs.Works.{Work as GetWork}
use Rattle.qsg_commit.specs.declared.phases.Phase.{Phase as EndPhase}
use Rattle.qsg_commit.specs.declared.phases.Phase.TheVariants as ending
use Rattle.qsg_commit.specs.declared.phases.StepError.{StepError}
use Rattle.qsg_commit.specs.declared.phases.StepError.TheVariants.{NoMemory, LogFailed}
use Rattle.qsg_commit.specs.declared.phases.Taken.{Taken}
use Rattle.qsg_commit.specs.declared.phases.Taken.TheVariants.{Nothing, Busy, Begun}
use Rattle.qsg_commit.specs.Committing.{take_answer, IsPageMade}
use Rattle.qsg_commit.specs.Ending.{settled_by, settled, is_settled, ended, ended_if_settled, given_up, undone}
use Rattle.qsg_commit.specs.Next as ends
use Rattle.qsg_commit.specs.Pending.{pending}
use Rattle.qsg_works.specs.declared.work.Work.{Work}
use Rattle.qsg_works.specs.declared.work.Work.TheVariants.{Put, Get, Commit}
use Rattle.qsg_works.specs.Steps.{NextPut, NextGet, NextWork}
use Rattle.qsg_fit.specs.Fits.{FitsPut, FitsGet}
use Rattle.qsg_fit.specs.Outcomes.{FitsEnd}
use Rattle.qsg_fit.specs.Requests.{IsRequestOf, IsSteadyIf, IsSteadyBeside, has_put_begun, has_get_begun, has_end_begun}
use Rattle.qsg_fit.proofs.Opened.{task_stored}
use Rattle.qsg_fit.proofs.Settling.{pending_unit}
use Rattle.qsg_peer.specs.declared.phases.FailedLife.{FailedLife}
use Rattle.qsg_peer.specs.Machine.{IsOver}
use Rattle.qsg_peer.specs.Sweeping.{AreOrdered}
use Rattle.qsg_lives.specs.Marks.{LeavesMarks, answers_in}
use Rattle.qsg_lives.proofs.Counting.{held_live}
use Rattle.qsg_lives.proofs.Touching.{OffOrSame, Leads, led_by, leads_leaves}

-- the group is steady, with some number of requests in progress
pub record IsSteadyOf (a : ℕ) (p : Owned) : Type 0 where
  pub busy : ℕ
  pub steady : IsSteady a busy p

pub steady_of : (begun : Bool) (a b : ℕ) (p : Owned) → IsSteadyIf begun a b p → IsSteadyOf a p
steady_of true a b p s = record { busy = b + 1; steady = s }
steady_of false a b p s = record { busy = b; steady = s }

-- ---- a put

put_reserved : (m : Member) (t : TaskNo) (words : PutWords) (terms : PutTerms) (p : Owned) (answer : Result (Unit {0}) NoLog) → (puts.after_reserve m t words terms p answer).parts.structures ≡ p.structures
put_reserved m t words terms p (Err why) = refl
put_reserved m t words terms p (Ok done) = refl

put_checked : (m : Member) (t : TaskNo) (words : PutWords) (p : Owned) (answer : Result PutTerms Reason) → (puts.after_check m t words p answer).parts.structures ≡ p.structures
put_checked m t words p (Err reason) = refl
put_checked m t words p (Ok terms) = put_reserved m t words terms p _

put_connected : (m : Member) (t : TaskNo) (u : UnitName) (terms : PutTerms) (p : Owned) (answer : Result Seen Lost) → (puts.after_connect m t u terms p answer).parts.structures ≡ p.structures
put_connected m t u terms p (Err lost) = refl
put_connected m t u terms p (Ok seen) = refl

put_refused : (m : Member) (t : TaskNo) (u : UnitName) (terms : PutTerms) (epoch : ℕ) (p : Owned) (reason : Option Reason) → (puts.after_refusal m t u terms epoch p reason).parts.structures ≡ p.structures
put_refused m t u terms epoch p (Some reason) = refl
put_refused m t u terms epoch p None = refl

-- what a step of a put leads to
abbrev PutLeads : Owned → puts.Next → Type 0
PutLeads p next = Leads (answers_in (Ok next.turn)) p next.parts.structures

-- an entry is written only where the structure is active
active_when : (s : ListStructure) (c : Connection) (head : Head) (place : Place) (most : ℕ) → write_refusal s c head place most ≡ None → is_active s.state ≡ true
active_when s c head place most none = by (is_active s.state) (c.epoch == s.epoch) none
  where
    by : (b same : Bool) → lost_or (cond (b && same) None (Some (record { state = s.state; epoch = s.epoch }))) (room_refusal s head place most) ≡ None → b ≡ true
    by true same is = refl
    by false same is = absurd (cc is)

put_written : (m : Member) (t : TaskNo) (words : PutWords) (u : UnitName) (terms : PutTerms) (epoch : ℕ) (p : Owned) (why : Option WriteWhy) → puts.refusal_of words terms epoch p ≡ why → IsLive (manager_in u.member p.managers) u
    → structure_number terms.structure ≤ length p.structures → PutLeads p (puts.after_write m t words u terms epoch p why)
put_written m t words u terms epoch p None is live within = inr (record {
  unit = u;
  live = live;
  touches = inr (refl, inl (record { structure = terms.structure; head = head_of words terms; place = Inline words.body; within = within; active = active; is = refl }));
})
  where
    active : is_active (structure_in terms.structure p.structures).state ≡ true
    active = active_when (structure_in terms.structure p.structures) (puts.use_of terms epoch) (head_of words terms) (Inline words.body) terms.max_depth is
put_written m t words u terms epoch p (Some why) is live within = inl (put_refused m t u terms epoch p (puts.reason_of why))

put_at : (a b : ℕ) (m : Member) (t : TaskNo) (words : PutWords) (p : Owned) (phase : PutPhase) → IsSteady a b p → FitsPut m words (stand m t p) phase → PutLeads p (puts.next_at m t words p phase)
put_at a b m t words p putting.Check s fits = inl (put_checked m t words p _)
put_at a b m t words p (putting.Connect u terms) s fits = inl (put_connected m t u terms p _)
put_at a b m t words p (putting.Write u terms epoch) s fits = put_written m t words u terms epoch p _ refl (held_live a b p m t u s (ap (λ (z : Task). z.unit) fits.holds)) fits.within

put_step : (a b : ℕ) (old new : PutWork) (p q : Owned) (result : Result Turn StepError) → IsSteady a b p → FitsPut old.member old.words (stand old.member old.task p) old.phase → NextPut old p result new q → Leads (answers_in result) p q.structures
put_step a b old new p q (Ok turn) s fits next = subst (PutLeads p) (sym next.1) (put_at a b old.member old.task old.words p old.phase s fits)
put_step a b old new p q (Err NoMemory) s fits next = inl (ap (λ (x : Owned). x.structures) next.1)
put_step a b old new p q (Err LogFailed) s fits next = absurd next

-- ---- a get

get_reserved : (m : Member) (t : TaskNo) (terms : GetTerms) (p : Owned) (answer : Result (Unit {0}) NoLog) → (gets.after_reserve m t terms p answer).parts.structures ≡ p.structures
get_reserved m t terms p (Err why) = refl
get_reserved m t terms p (Ok done) = refl

get_checked : (m : Member) (t : TaskNo) (p : Owned) (answer : Result GetTerms Reason) → (gets.after_check m t p answer).parts.structures ≡ p.structures
get_checked m t p (Err reason) = refl
get_checked m t p (Ok terms) = get_reserved m t terms p _

get_connected : (m : Member) (t : TaskNo) (u : UnitName) (terms : GetTerms) (p : Owned) (answer : Result Seen Lost) → (gets.after_connect m t u terms p answer).parts.structures ≡ p.structures
get_connected m t u terms p (Err lost) = refl
get_connected m t u terms p (Ok seen) = refl

-- what a step of a get leads to
abbrev GetLeads : Owned → gets.Next → Type 0
GetLeads p next = Leads (answers_in (Ok next.turn)) p next.parts.structures

get_taken : (m : Member) (t : TaskNo) (u : UnitName) (queue : List ℕ) (select : Selector) (terms : GetTerms) (epoch : ℕ) (p : Owned) (lost : Option Lost) (found : Option Entry) → IsLive (manager_in u.member p.managers) u
    → structure_number terms.structure ≤ length p.structures → found_in (gets.use_of terms epoch) queue terms.order select p.structures ≡ found → GetLeads p (gets.after_take m t u terms epoch p lost found)
get_taken m t u queue select terms epoch p (Some lost) found live within is = inl refl
get_taken m t u queue select terms epoch p None None live within is = inl refl
get_taken m t u queue select terms epoch p None (Some e) live within is = inr (record {
  unit = u;
  live = live;
  touches = inr (refl, inr (record { connection = gets.use_of terms epoch; queue = queue; order = terms.order; select = select; entry = e; within = within; found = is; is = refl }));
})

get_at : (a b : ℕ) (m : Member) (t : TaskNo) (queue : List ℕ) (select : Selector) (p : Owned) (phase : GetPhase) → IsSteady a b p → FitsGet m (stand m t p) phase → GetLeads p (gets.next_at m t queue select p phase)
get_at a b m t queue select p getting.Check s fits = inl (get_checked m t p _)
get_at a b m t queue select p (getting.Connect u terms) s fits = inl (get_connected m t u terms p _)
get_at a b m t queue select p (getting.Take u terms epoch) s fits = get_taken m t u queue select terms epoch p _ _ (held_live a b p m t u s (ap (λ (z : Task). z.unit) fits.holds)) fits.within refl

get_step : (a b : ℕ) (old new : GetWork) (p q : Owned) (result : Result Turn StepError) → IsSteady a b p → FitsGet old.member (stand old.member old.task p) old.phase → NextGet old p result new q → Leads (answers_in result) p q.structures
get_step a b old new p q (Ok turn) s fits next = subst (GetLeads p) (sym next.1) (get_at a b old.member old.task old.queue old.select p old.phase s fits)
get_step a b old new p q (Err NoMemory) s fits next = inl (ap (λ (x : Owned). x.structures) next.1)
get_step a b old new p q (Err LogFailed) s fits next = absurd next

-- ---- a COMMIT or BACKOUT

at_place : (P : Claim → Type 0) (claims : List Claim) (n : ℕ) → AllByRecursion P claims → IfSome (slice_get claims n) P
at_place P [] n all = tt
at_place P (c ∷ claims) zero all = all.0
at_place P (c ∷ claims) (suc n) all = at_place P claims n all.1

next_within : (n : ℕ) (stage : Stage) (claims : List Claim) → AllByRecursion (IsWithin n) claims → IfSome (next_by stage claims) (IsWithin n)
next_within n Open claims all = tt
next_within n (Hardening first) claims all = tt
next_within n (Committed first settled) claims all = at_place (IsWithin n) claims settled all
next_within n (BackedOut settled) claims all = at_place (IsWithin n) claims settled all

-- the next mark of a unit comes off, if it has one
mark_off : (u : UnitName) (t : TaskNo) (next : Option Claim) (p : Owned) → IfSome next (IsWithin (length p.structures)) → OffOrSame u p.structures (settled_by u t next p).structures
mark_off u t None p within = inl refl
mark_off u t (Some c) p within = inr (record { commits = commits (task_at u.member t p.managers).stage; connection = c.connection; id = c.id; within = within; is = refl })

ended_same : (u : UnitName) (t : TaskNo) (p : Owned) → (ended_if_settled u t p).structures ≡ p.structures
ended_same u t p = by (is_settled u t p)
  where
    by : (b : Bool) → (cond b (ended u t p) p).structures ≡ p.structures
    by true = refl
    by false = refl

undone_off : (u : UnitName) (t : TaskNo) (p : Owned) → IfSome (next_claim (task_at u.member t p.managers)) (IsWithin (length p.structures)) → OffOrSame u p.structures (undone u t p).structures
undone_off u t p within = subst (OffOrSame u p.structures) (sym (ended_same u t (settled u t p))) (mark_off u t (next_claim (task_at u.member t p.managers)) p within)

-- the next claim of a task is on a structure of the group
claimed : (a b : ℕ) (p : Owned) (m : Member) (t : TaskNo) → IsSteady a b p → IfSome (next_claim (task_at m t p.managers)) (IsWithin (length p.structures))
claimed a b p m t s = next_within (length p.structures) (task_at m t p.managers).stage (task_at m t p.managers).claims (s.within m t)

give_up_leads : (a b n : ℕ) (m : Member) (t : TaskNo) (found : Option (UnitName × ℕ)) (p : Owned) → IsSteady a b p → member_number m ≤ length p.managers → pending (task_at m t p.managers) ≡ found → Leads n p (ends.after_give_up t found p).parts.structures
give_up_leads a b n m t None p s has is = inl refl
give_up_leads a b n m t (Some (u, count)) p s has is =
    let holds = pending_unit (task_at m t p.managers) u count is in
    let own = s.own m t u holds in
    let q = given_up u t p in
    let task = task_at m t p.managers in
    let stored = subst (λ (k : Member). task_at k t (given_up u t p).managers ≡ decided (BackedOut 0) (task_at k t p.managers)) (sym own)
    (subst (λ (k : Member). task_at m t (with_backed_out k t p.managers) ≡ decided (BackedOut 0) (task_at m t p.managers)) (sym own) (task_stored m t (decided (BackedOut 0) task) p.managers has (s.shape.five m has))) in
    let within = subst (λ (z : Task). IfSome (next_claim z) (IsWithin (length p.structures))) (sym stored)
    (at_place (IsWithin (length p.structures)) (task_at u.member t p.managers).claims 0 (s.within u.member t)) in
    led_by n u p (undone u t q).structures (held_live a b p m t u s holds) (undone_off u t q within)

latch_same : (m : Member) (t : TaskNo) (taken : Taken) (p : Owned) (turn : Turn) (phase : EndPhase) (q : Owned) → ends.LatchStep m t taken p turn phase q → q.structures ≡ p.structures
latch_same m t Nothing p turn phase q step = ap (λ (x : Owned). x.structures) step.2
latch_same m t (Busy busy) p turn phase q step = ap (λ (x : Owned). x.structures) step.2
latch_same m t (Begun u count) p turn phase q step = ap (λ (x : Owned). x.structures) step.2.parts

page_same : (u : UnitName) (t : TaskNo) (done : Bool) (p q : Owned) → IsPageMade u t done p q → q.structures ≡ p.structures
page_same u t true p q made = ap (λ (x : Owned). x.structures) made.parts
page_same u t false p q made = ap (λ (x : Owned). x.structures) made

end_at : (a b : ℕ) (m : Member) (t : TaskNo) (phase : EndPhase) (p : Owned) (result : Result Turn StepError) (after : EndPhase) (q : Owned) → IsSteady a b p → member_number m ≤ length p.managers → FitsEnd (task_at m t p.managers) phase
    → ends.NextAt m t phase p result after q → Leads (answers_in result) p q.structures
end_at a b m t ending.Latch p (Ok turn) after q s has fits next = inl (latch_same m t (take_answer m t p) p turn after q next)
end_at a b m t ending.Latch p (Err NoMemory) after q s has fits next = inl (ap (λ (x : Owned). x.structures) next.1.same)
end_at a b m t ending.Latch p (Err LogFailed) after q s has fits next = absurd next
end_at a b m t (ending.Pages u count) p (Ok turn) after q s has fits (done, is, at, step) = inl (page_same u t done p q step.made)
end_at a b m t (ending.Pages u count) p (Err NoMemory) after q s has fits next = absurd next
end_at a b m t (ending.Pages u count) p (Err LogFailed) after q s has fits next = inl (ap (λ (x : Owned). x.structures) next.1.parts)
end_at a b m t (ending.Settle u count) p (Ok turn) after q s has fits next =
    subst (Leads (answers_in (Ok turn)) p) (sym (ap (λ (n : ends.Next). n.parts.structures) next))
    (led_by (answers_in (Ok turn)) u p (settled u t p).structures (held_live a b p m t u s (ap (λ (z : Task). z.unit) fits.is)) (mark_off u t (next_claim (task_at u.member t p.managers)) p (claimed a b p u.member t s)))
end_at a b m t (ending.Settle u count) p (Err e) after q s has fits next = absurd next
end_at a b m t (ending.Publish u count) p (Ok turn) after q s has fits next = inl (ap (λ (n : ends.Next). n.parts.structures) next)
end_at a b m t (ending.Publish u count) p (Err e) after q s has fits next = absurd next
end_at a b m t ending.GiveUp p (Ok turn) after q s has fits next =
    subst (Leads (answers_in (Ok turn)) p) (sym (ap (λ (n : ends.Next). n.parts.structures) next)) (give_up_leads a b (answers_in (Ok turn)) m t (pending (task_at m t p.managers)) p s has refl)
end_at a b m t ending.GiveUp p (Err e) after q s has fits next = absurd next
end_at a b m t (ending.Undo u count) p (Ok turn) after q s has fits next =
    subst (Leads (answers_in (Ok turn)) p) (sym (ap (λ (n : ends.Next). n.parts.structures) next))
    (led_by (answers_in (Ok turn)) u p (undone u t p).structures (held_live a b p m t u s (ap (λ (z : Task). z.unit) fits.is)) (undone_off u t p (claimed a b p u.member t s)))
end_at a b m t (ending.Undo u count) p (Err e) after q s has fits next = absurd next

-- ---- whatever the kind

pub request_leads : (a b : ℕ) (before work : Work) (p q : Owned) (result : Result Turn StepError) → IsSteadyBeside a b before p → IsRequestOf before p → NextWork before p result work q → Leads (answers_in result) p q.structures
request_leads a b (Put old) (Put new) p q result s fits next = let is = steady_of (has_put_begun old.phase) a b p s in put_step a is.busy old new p q result is.steady fits.stands next
request_leads a b (Put old) (Get new) p q result s fits next = absurd next
request_leads a b (Put old) (Commit new) p q result s fits next = absurd next
request_leads a b (Get old) (Put new) p q result s fits next = absurd next
request_leads a b (Get old) (Get new) p q result s fits next = let is = steady_of (has_get_begun old.phase) a b p s in get_step a is.busy old new p q result is.steady fits.stands next
request_leads a b (Get old) (Commit new) p q result s fits next = absurd next
request_leads a b (Commit old) (Put new) p q result s fits next = absurd next
request_leads a b (Commit old) (Get new) p q result s fits next = absurd next
request_leads a b (Commit old) (Commit new) p q result s fits next =
    let is = steady_of (has_end_begun old.phase) a b p s in end_at a is.busy old.member old.task old.phase p result new.phase q is.steady fits.member.manager fits.stands next.next

-- an incarnation that is over is left its marks
pub request_leaves : (a b : ℕ) (life : FailedLife) (before work : Work) (p q : Owned) (result : Result Turn StepError) → IsSteadyBeside a b before p → IsRequestOf before p → AreOrdered p → IsOver life p → NextWork before p result work q → LeavesMarks life p q
request_leaves a b life before work p q result s fits ordered over next = leads_leaves life (answers_in result) p q ordered over (request_leads a b before work p q result s fits next)
