-- an incarnation that is over stays so
use Rattle.std.proofs.Common.{◌≡◌, inl, inr, ℕ, ◌+◌, ◌-◌, ◌≤◌, Bool, true, false, cond, List, length, Option, Some, None, Result, Ok, Err, refl, sym, ap, subst, ◌∙◌, arith, length-set}
use Rattle.qsg_num.specs.declared.ids.Incarnation.{Incarnation}
use Rattle.qsg_num.specs.declared.ids.PageNo.{PageNo}
use Rattle.qsg_num.specs.declared.ids.UnitName.{UnitName}
use Rattle.qsg_num.specs.declared.seats.Member.{Member}
use Rattle.qsg_num.specs.declared.seats.TaskNo.{TaskNo}
use Rattle.qsg_num.specs.Seats.{member_number}
use Rattle.qsg_lists.specs.declared.parts.Entry.{Entry}
use Rattle.qsg_lists.specs.declared.parts.Lost.{Lost}
use Rattle.qsg_lists.specs.declared.parts.Seen.{Seen}
use Rattle.qsg_lists.specs.declared.parts.Selector.{Selector}
use Rattle.qsg_lists.specs.declared.parts.WriteWhy.{WriteWhy}
use Rattle.qsg_logpage.specs.declared.writer.NoLog.{NoLog}
use Rattle.qsg_requests.specs.declared.replies.Reason.{Reason}
use Rattle.qsg_requests.specs.declared.replies.Turn.{Turn}
use Rattle.qsg_requests.specs.declared.words.PutWords.{PutWords}
use Rattle.qsg_group.specs.declared.tasks.Claim.{Claim}
use Rattle.qsg_group.specs.declared.tasks.Task.{Task}
use Rattle.qsg_group.specs.Laws.{HasEnded}
use Rattle.qsg_manager.specs.declared.managers.Manager.{Manager}
use Rattle.qsg_manager.specs.Groups.{seat_of}
use Rattle.qsg_manager.specs.Seats.{with_down}
use Rattle.qsg_manager.specs.Settles.{next_claim}
use Rattle.qsg_manager.specs.Storage.{manager_in, task_at, with_manager, with_task, with_drawn}
use Rattle.qsg_manager.specs.Units.{with_name}
use Rattle.qsg_manager.proofs.Grouping.{manager_same, manager_other}
use Rattle.qsg_parts.specs.Owned.{Owned, HasMember}
use Rattle.qsg_steady.specs.Standing.{stand}
use Rattle.qsg_steady.specs.Steady.{IsSteady}
use Rattle.qsg_steady.proofs.Acting.{tasked}
use Rattle.qsg_steady.proofs.Moving.{by_member}
use Rattle.qsg_put.specs.declared.checking.Terms.{Terms as PutTerms}
use Rattle.qsg_put.specs.declared.phases.Phase.{Phase as PutPhase}
use Rattle.qsg_put.specs.declared.phases.Phase.TheVariants as putting
use Rattle.qsg_put.specs.Steps as puts
use Rattle.qsg_put.specs.Works.{Work as PutWork}
use Rattle.qsg_get.specs.declared.checking.Terms.{Terms as GetTerms}
use Rattle.qsg_get.specs.declared.phases.Phase.{Phase as GetPhase}
use Rattle.qsg_get.specs.declared.phases.Phase.TheVariants as getting
use Rattle.qsg_get.specs.Steps as gets
use Rattle.qsg_get.specs.Works.{Work as GetWork}
use Rattle.qsg_commit.specs.declared.phases.Phase.{Phase as EndPhase}
use Rattle.qsg_commit.specs.declared.phases.Phase.TheVariants as ending
use Rattle.qsg_commit.specs.declared.phases.StepError.{StepError}
use Rattle.qsg_commit.specs.declared.phases.StepError.TheVariants.{NoMemory, LogFailed}
use Rattle.qsg_commit.specs.declared.phases.Taken.{Taken}
use Rattle.qsg_commit.specs.declared.phases.Taken.TheVariants.{Nothing, Busy, Begun}
use Rattle.qsg_commit.specs.Committing.{take_answer, IsPageMade}
use Rattle.qsg_commit.specs.Ending.{settled_by, settled, is_settled, ended, ended_if_settled, given_up, undone}
use Rattle.qsg_commit.specs.Next as ends
use Rattle.qsg_commit.specs.Pending.{pending}
use Rattle.qsg_works.specs.declared.work.Work.{Work}
use Rattle.qsg_works.specs.declared.work.Work.TheVariants.{Put, Get, Commit}
use Rattle.qsg_works.specs.Steps.{NextPut, NextGet, NextWork}
use Rattle.qsg_fit.specs.Fits.{FitsGet}
use Rattle.qsg_fit.specs.Requests.{IsOwnEnd, IsRequestOf, IsSteadyBeside, has_end_begun}
use Rattle.qsg_fit.proofs.Settling.{pending_unit}
use Rattle.qsg_crash.specs.Crashes.{IsCrash}
use Rattle.qsg_start.specs.declared.phases.NoMemory.{NoMemory as StartLacks}
use Rattle.qsg_start.specs.declared.phases.Phase.{Phase as StartPhase}
use Rattle.qsg_start.specs.declared.phases.Phase.TheVariants as starting
use Rattle.qsg_start.specs.declared.phases.StartTurn.{StartTurn}
use Rattle.qsg_start.specs.Steps as starts
use Rattle.qsg_start.specs.Works.{Work as StartWork}
use Rattle.qsg_peer.specs.declared.phases.FailedLife.{FailedLife}
use Rattle.qsg_peer.specs.declared.phases.NoMemory.{NoMemory as PeerLacks}
use Rattle.qsg_peer.specs.declared.phases.PeerTurn.{PeerTurn}
use Rattle.qsg_peer.specs.Machine.{IsOver}
use Rattle.qsg_peer.specs.Steps.{NextPeer}
use Rattle.qsg_peer.specs.Works.{Work as PeerWork}
use Rattle.qsg_peer.proofs.Leaving.{rest_left}
use Rattle.qsg_lives.proofs.Downing.{down_here, down_other, ended_down}
use Rattle.qsg_lives.proofs.Requests.{steady_of}
use Rattle.qsg_lives.proofs.Starting.{upped, start_ended, checked_same, made}

-- which members are up, in which incarnations, is as it was
abbrev pub SeatsStay : List Manager → List Manager → Type 0
SeatsStay ms now = (k : Member) → ((manager_in k now).up ≡ (manager_in k ms).up) × ((manager_in k now).incarnation ≡ (manager_in k ms).incarnation)

over_stays : (life : FailedLife) (p q : Owned) → SeatsStay p.managers q.managers → IsOver life p → IsOver life q
over_stays life p q seats over =
    let same = seats life.member in
    let number : (manager_in life.member q.managers).incarnation.number ≡ (manager_in life.member p.managers).incarnation.number = ap (λ (i : Incarnation). i.number) same.1 in
    record { past = omega (arith, over.past, number); down = λ is. same.0 ∙ over.down (is ∙ number) }

-- ---- storage that changes

none_seated : (ms : List Manager) → SeatsStay ms ms
none_seated ms k = (refl, refl)

then_seated : (ms now after : List Manager) → SeatsStay ms now → SeatsStay now after → SeatsStay ms after
then_seated ms now after first then k = ((then k).0 ∙ (first k).0, (then k).1 ∙ (first k).1)

seated : (p q : Owned) (ms : List Manager) → q.managers ≡ ms → SeatsStay p.managers ms → SeatsStay p.managers q.managers
seated p q ms is seats = subst (SeatsStay p.managers) (sym is) seats

one_seated : (m : Member) (x : Manager) (ms : List Manager) → member_number m ≤ length ms → x.up ≡ (manager_in m ms).up → x.incarnation ≡ (manager_in m ms).incarnation → SeatsStay ms (with_manager m x ms)
one_seated m x ms within up inc = by_member (λ k. ((manager_in k (with_manager m x ms)).up ≡ (manager_in k ms).up) × ((manager_in k (with_manager m x ms)).incarnation ≡ (manager_in k ms).incarnation)) m
    (ap (λ (y : Manager). y.up) (manager_same m x ms within) ∙ up, ap (λ (y : Manager). y.incarnation) (manager_same m x ms within) ∙ inc)
    (λ k differ. (ap (λ (y : Manager). y.up) (manager_other m k x ms differ), ap (λ (y : Manager). y.incarnation) (manager_other m k x ms differ)))

task_seated : (m : Member) (t : TaskNo) (y : Task) (ms : List Manager) → member_number m ≤ length ms → SeatsStay ms (with_task m t y ms)
task_seated m t y ms within = one_seated m (tasked t y (manager_in m ms)) ms within refl refl

still_within : (m : Member) (t : TaskNo) (y : Task) (ms : List Manager) → member_number m ≤ length ms → member_number m ≤ length (with_task m t y ms)
still_within m t y ms within = subst (λ (n : ℕ). member_number m ≤ n) (sym (length-set ms (member_number m - 1) (tasked t y (manager_in m ms)))) within

named_seated : (m : Member) (t : TaskNo) (ms : List Manager) → member_number m ≤ length ms → SeatsStay ms (with_name m t ms)
named_seated m t ms within =
    let counted : Manager = record (manager_in m ms) { next = (manager_in m ms).next + 1 } in
    then_seated ms (with_drawn m ms) (with_name m t ms) (one_seated m counted ms within refl refl)
    (task_seated m t _ (with_drawn m ms) (subst (λ (n : ℕ). member_number m ≤ n) (sym (length-set ms (member_number m - 1) counted)) within))

-- ---- a put and a get

named_put : (o : Option UnitName) (m : Member) (t : TaskNo) (ms : List Manager) → member_number m ≤ length ms → SeatsStay ms (puts.named o m t ms)
named_put (Some u) m t ms within = none_seated ms
named_put None m t ms within = named_seated m t ms within

named_get : (o : Option UnitName) (m : Member) (t : TaskNo) (ms : List Manager) → member_number m ≤ length ms → SeatsStay ms (gets.named o m t ms)
named_get (Some u) m t ms within = none_seated ms
named_get None m t ms within = named_seated m t ms within

put_reserved : (m : Member) (t : TaskNo) (words : PutWords) (terms : PutTerms) (p : Owned) (answer : Result (Unit {0}) NoLog) → member_number m ≤ length p.managers → SeatsStay p.managers (puts.after_reserve m t words terms p answer).parts.managers
put_reserved m t words terms p (Err why) within = none_seated p.managers
put_reserved m t words terms p (Ok done) within = named_put (task_at m t p.managers).unit m t p.managers within

put_checked : (m : Member) (t : TaskNo) (words : PutWords) (p : Owned) (answer : Result PutTerms Reason) → member_number m ≤ length p.managers → SeatsStay p.managers (puts.after_check m t words p answer).parts.managers
put_checked m t words p (Err reason) within = none_seated p.managers
put_checked m t words p (Ok terms) within = put_reserved m t words terms p _ within

put_connected : (m : Member) (t : TaskNo) (u : UnitName) (terms : PutTerms) (p : Owned) (answer : Result Seen Lost) → SeatsStay p.managers (puts.after_connect m t u terms p answer).parts.managers
put_connected m t u terms p (Err lost) = none_seated p.managers
put_connected m t u terms p (Ok seen) = none_seated p.managers

put_refused : (m : Member) (t : TaskNo) (u : UnitName) (terms : PutTerms) (epoch : ℕ) (p : Owned) (reason : Option Reason) → SeatsStay p.managers (puts.after_refusal m t u terms epoch p reason).parts.managers
put_refused m t u terms epoch p (Some reason) = none_seated p.managers
put_refused m t u terms epoch p None = none_seated p.managers

put_written : (m : Member) (t : TaskNo) (words : PutWords) (u : UnitName) (terms : PutTerms) (epoch : ℕ) (p : Owned) (why : Option WriteWhy) → member_number m ≤ length p.managers → SeatsStay p.managers (puts.after_write m t words u terms epoch p why).parts.managers
put_written m t words u terms epoch p None within = task_seated m t _ p.managers within
put_written m t words u terms epoch p (Some why) within = put_refused m t u terms epoch p (puts.reason_of why)

put_seated : (m : Member) (t : TaskNo) (words : PutWords) (p : Owned) (phase : PutPhase) → member_number m ≤ length p.managers → SeatsStay p.managers (puts.next_at m t words p phase).parts.managers
put_seated m t words p putting.Check within = put_checked m t words p _ within
put_seated m t words p (putting.Connect u terms) within = put_connected m t u terms p _
put_seated m t words p (putting.Write u terms epoch) within = put_written m t words u terms epoch p _ within

get_reserved : (m : Member) (t : TaskNo) (terms : GetTerms) (p : Owned) (answer : Result (Unit {0}) NoLog) → member_number m ≤ length p.managers → SeatsStay p.managers (gets.after_reserve m t terms p answer).parts.managers
get_reserved m t terms p (Err why) within = none_seated p.managers
get_reserved m t terms p (Ok done) within = named_get (task_at m t p.managers).unit m t p.managers within

get_checked : (m : Member) (t : TaskNo) (p : Owned) (answer : Result GetTerms Reason) → member_number m ≤ length p.managers → SeatsStay p.managers (gets.after_check m t p answer).parts.managers
get_checked m t p (Err reason) within = none_seated p.managers
get_checked m t p (Ok terms) within = get_reserved m t terms p _ within

get_connected : (m : Member) (t : TaskNo) (u : UnitName) (terms : GetTerms) (p : Owned) (answer : Result Seen Lost) → SeatsStay p.managers (gets.after_connect m t u terms p answer).parts.managers
get_connected m t u terms p (Err lost) = none_seated p.managers
get_connected m t u terms p (Ok seen) = none_seated p.managers

get_taken : (m : Member) (t : TaskNo) (u : UnitName) (terms : GetTerms) (epoch : ℕ) (p : Owned) (lost : Option Lost) (found : Option Entry) → member_number u.member ≤ length p.managers → SeatsStay p.managers (gets.after_take m t u terms epoch p lost found).parts.managers
get_taken m t u terms epoch p (Some lost) found within = none_seated p.managers
get_taken m t u terms epoch p None None within = none_seated p.managers
get_taken m t u terms epoch p None (Some e) within = task_seated u.member t _ p.managers within

get_seated : (m : Member) (t : TaskNo) (queue : List ℕ) (select : Selector) (p : Owned) (phase : GetPhase) → FitsGet m (stand m t p) phase → member_number m ≤ length p.managers → SeatsStay p.managers (gets.next_at m t queue select p phase).parts.managers
get_seated m t queue select p getting.Check fits within = get_checked m t p _ within
get_seated m t queue select p (getting.Connect u terms) fits within = get_connected m t u terms p _
get_seated m t queue select p (getting.Take u terms epoch) fits within = get_taken m t u terms epoch p _ _ (subst (λ k. member_number k ≤ length p.managers) (sym fits.own) within)

-- ---- a COMMIT or BACKOUT

mark_seated : (u : UnitName) (t : TaskNo) (next : Option Claim) (p : Owned) → member_number u.member ≤ length p.managers → SeatsStay p.managers (settled_by u t next p).managers
mark_seated u t None p within = none_seated p.managers
mark_seated u t (Some c) p within = task_seated u.member t _ p.managers within

mark_within : (u : UnitName) (t : TaskNo) (next : Option Claim) (p : Owned) → member_number u.member ≤ length p.managers → member_number u.member ≤ length (settled_by u t next p).managers
mark_within u t None p within = within
mark_within u t (Some c) p within = still_within u.member t _ p.managers within

end_seated : (u : UnitName) (t : TaskNo) (p : Owned) → member_number u.member ≤ length p.managers → SeatsStay p.managers (ended_if_settled u t p).managers
end_seated u t p within = by (is_settled u t p)
  where
    by : (b : Bool) → SeatsStay p.managers (cond b (ended u t p) p).managers
    by true = task_seated u.member t _ p.managers within
    by false = none_seated p.managers

undone_seated : (u : UnitName) (t : TaskNo) (p : Owned) → member_number u.member ≤ length p.managers → SeatsStay p.managers (undone u t p).managers
undone_seated u t p within =
    let next = next_claim (task_at u.member t p.managers) in
    then_seated p.managers (settled u t p).managers (undone u t p).managers (mark_seated u t next p within) (end_seated u t (settled u t p) (mark_within u t next p within))

give_up_seated : (a b : ℕ) (m : Member) (t : TaskNo) (found : Option (UnitName × ℕ)) (p : Owned) → IsSteady a b p → member_number m ≤ length p.managers → pending (task_at m t p.managers) ≡ found → SeatsStay p.managers (ends.after_give_up t found p).parts.managers
give_up_seated a b m t None p s within is = none_seated p.managers
give_up_seated a b m t (Some (u, count)) p s within is =
    let own = s.own m t u (pending_unit (task_at m t p.managers) u count is) in
    let there = subst (λ k. member_number k ≤ length p.managers) (sym own) within in
    then_seated p.managers (given_up u t p).managers (undone u t (given_up u t p)).managers (task_seated u.member t _ p.managers there) (undone_seated u t (given_up u t p) (still_within u.member t _ p.managers there))

latch_seated : (m : Member) (t : TaskNo) (taken : Taken) (p : Owned) (turn : Turn) (phase : EndPhase) (q : Owned) → member_number m ≤ length p.managers → ends.LatchStep m t taken p turn phase q → SeatsStay p.managers q.managers
latch_seated m t Nothing p turn phase q within step = seated p q p.managers (ap (λ (x : Owned). x.managers) step.2) (none_seated p.managers)
latch_seated m t (Busy busy) p turn phase q within step = seated p q p.managers (ap (λ (x : Owned). x.managers) step.2) (none_seated p.managers)
latch_seated m t (Begun u count) p turn phase q within step = seated p q _ (ap (λ (x : Owned). x.managers) step.2.parts) (task_seated m t _ p.managers within)

page_seated : (u : UnitName) (t : TaskNo) (done : Bool) (p q : Owned) → member_number u.member ≤ length p.managers → IsPageMade u t done p q → SeatsStay p.managers q.managers
page_seated u t true p q within made = seated p q _ (ap (λ (x : Owned). x.managers) made.parts) (task_seated u.member t _ p.managers within)
page_seated u t false p q within made = seated p q p.managers (ap (λ (x : Owned). x.managers) made) (none_seated p.managers)

end_at : (a b : ℕ) (m : Member) (t : TaskNo) (phase : EndPhase) (p : Owned) (result : Result Turn StepError) (after : EndPhase) (q : Owned) → IsSteady a b p → member_number m ≤ length p.managers → IsOwnEnd m phase → ends.NextAt m t phase p result after q → SeatsStay p.managers q.managers
end_at a b m t ending.Latch p (Ok turn) after q s within own next = latch_seated m t (take_answer m t p) p turn after q within next
end_at a b m t ending.Latch p (Err NoMemory) after q s within own next = seated p q p.managers (ap (λ (x : Owned). x.managers) next.1.same) (none_seated p.managers)
end_at a b m t ending.Latch p (Err LogFailed) after q s within own next = absurd next
end_at a b m t (ending.Pages u count) p (Ok turn) after q s within own (done, is, at, step) = page_seated u t done p q (subst (λ k. member_number k ≤ length p.managers) (sym own) within) step.made
end_at a b m t (ending.Pages u count) p (Err NoMemory) after q s within own next = absurd next
end_at a b m t (ending.Pages u count) p (Err LogFailed) after q s within own next = seated p q p.managers (ap (λ (x : Owned). x.managers) next.1.parts) (none_seated p.managers)
end_at a b m t (ending.Settle u count) p (Ok turn) after q s within own next =
    seated p q _ (ap (λ (n : ends.Next). n.parts.managers) next) (mark_seated u t (next_claim (task_at u.member t p.managers)) p (subst (λ k. member_number k ≤ length p.managers) (sym own) within))
end_at a b m t (ending.Settle u count) p (Err e) after q s within own next = absurd next
end_at a b m t (ending.Publish u count) p (Ok turn) after q s within own next =
    seated p q _ (ap (λ (n : ends.Next). n.parts.managers) next) (task_seated u.member t _ p.managers (subst (λ k. member_number k ≤ length p.managers) (sym own) within))
end_at a b m t (ending.Publish u count) p (Err e) after q s within own next = absurd next
end_at a b m t ending.GiveUp p (Ok turn) after q s within own next = seated p q _ (ap (λ (n : ends.Next). n.parts.managers) next) (give_up_seated a b m t (pending (task_at m t p.managers)) p s within refl)
end_at a b m t ending.GiveUp p (Err e) after q s within own next = absurd next
end_at a b m t (ending.Undo u count) p (Ok turn) after q s within own next =
    seated p q _ (ap (λ (n : ends.Next). n.parts.managers) next) (undone_seated u t p (subst (λ k. member_number k ≤ length p.managers) (sym own) within))
end_at a b m t (ending.Undo u count) p (Err e) after q s within own next = absurd next

-- ---- a request

put_step : (old new : PutWork) (p q : Owned) (result : Result Turn StepError) → member_number old.member ≤ length p.managers → NextPut old p result new q → SeatsStay p.managers q.managers
put_step old new p q (Ok turn) within next = seated p q _ (ap (λ (n : puts.Next). n.parts.managers) next.1) (put_seated old.member old.task old.words p old.phase within)
put_step old new p q (Err NoMemory) within next = seated p q p.managers (ap (λ (x : Owned). x.managers) next.1) (none_seated p.managers)
put_step old new p q (Err LogFailed) within next = absurd next

get_step : (old new : GetWork) (p q : Owned) (result : Result Turn StepError) → FitsGet old.member (stand old.member old.task p) old.phase → member_number old.member ≤ length p.managers → NextGet old p result new q → SeatsStay p.managers q.managers
get_step old new p q (Ok turn) fits within next = seated p q _ (ap (λ (n : gets.Next). n.parts.managers) next.1) (get_seated old.member old.task old.queue old.select p old.phase fits within)
get_step old new p q (Err NoMemory) fits within next = seated p q p.managers (ap (λ (x : Owned). x.managers) next.1) (none_seated p.managers)
get_step old new p q (Err LogFailed) fits within next = absurd next

-- a step of a request leaves which members are up, and in which incarnations
pub request_seats : (a b : ℕ) (before work : Work) (p q : Owned) (result : Result Turn StepError) → IsSteadyBeside a b before p → IsRequestOf before p → NextWork before p result work q → SeatsStay p.managers q.managers
request_seats a b (Put old) (Put new) p q result s fits next = put_step old new p q result fits.member.manager next
request_seats a b (Put old) (Get new) p q result s fits next = absurd next
request_seats a b (Put old) (Commit new) p q result s fits next = absurd next
request_seats a b (Get old) (Put new) p q result s fits next = absurd next
request_seats a b (Get old) (Get new) p q result s fits next = get_step old new p q result fits.stands fits.member.manager next
request_seats a b (Get old) (Commit new) p q result s fits next = absurd next
request_seats a b (Commit old) (Put new) p q result s fits next = absurd next
request_seats a b (Commit old) (Get new) p q result s fits next = absurd next
request_seats a b (Commit old) (Commit new) p q result s fits next =
    let is = steady_of (has_end_begun old.phase) a b p s in end_at a is.busy old.member old.task old.phase p result new.phase q is.steady fits.member.manager fits.own next.next

pub request_over : (a b : ℕ) (life : FailedLife) (before work : Work) (p q : Owned) (result : Result Turn StepError) → IsSteadyBeside a b before p → IsRequestOf before p → NextWork before p result work q → IsOver life p → IsOver life q
request_over a b life before work p q result s fits next over = over_stays life p q (request_seats a b before work p q result s fits next) over

-- ---- a peer's work

pub peer_over : (life : FailedLife) (skip : List (Member × Incarnation)) (w : PeerWork) (p : Owned) (result : Result PeerTurn PeerLacks) (v : PeerWork) (q : Owned) → NextPeer skip w p result v q → IsOver life p → IsOver life q
peer_over life skip w p result v q next over = over_stays life p q (seated p q p.managers (rest_left skip w p result v q next).managers (none_seated p.managers)) over

-- ---- a crash

crash_seat : (i : ℕ) (m : Member) (p q : Owned) → HasMember m p → IsCrash m p q → (k : Member) → HasEnded i (seat_of (manager_in k p.managers)) → HasEnded i (seat_of (manager_in k q.managers))
crash_seat i m p q has crash k =
    let managers = ap (λ (x : Owned). x.managers) crash.parts in
    subst (λ ms. HasEnded i (seat_of (manager_in k p.managers)) → HasEnded i (seat_of (manager_in k ms))) (sym managers)
    (by_member (λ j. HasEnded i (seat_of (manager_in j p.managers)) → HasEnded i (seat_of (manager_in j (with_down m p.managers)))) m
    (λ e. subst (λ (x : Manager). HasEnded i (seat_of x)) (sym (down_here m p.managers has.manager)) (ended_down i (manager_in m p.managers) e))
    (λ j differ e. subst (λ (x : Manager). HasEnded i (seat_of x)) (sym (down_other m j p.managers differ)) e) k)

pub crash_over : (life : FailedLife) (m : Member) (p q : Owned) → HasMember m p → IsCrash m p q → IsOver life p → IsOver life q
crash_over life m p q has crash over = crash_seat life.incarnation.number m p q has crash life.member over

pub crash_ends : (m : Member) (p q : Owned) → HasMember m p → IsCrash m p q → IsOver (record { member = m; incarnation = (manager_in m p.managers).incarnation }) q
crash_ends m p q has crash =
    let managers = ap (λ (x : Owned). manager_in m x.managers) crash.parts ∙ down_here m p.managers has.manager in
    subst (λ (x : Manager). HasEnded (manager_in m p.managers).incarnation.number (seat_of x)) (sym managers) (record { past = omega arith; down = λ is. refl })

-- ---- a START

started_over : (a b : ℕ) (life : FailedLife) (m : Member) (page : PageNo) (p : Owned) → IsSteady a b p → HasMember m p → IsOver life p → IsOver life (starts.started m page p)
started_over a b life m page p s has over =
    let q = starts.started m page p in
    let given = (s.listed m has.manager).given in
    let old = manager_in m p.managers in
    let next : (upped m p).incarnation.number ≡ old.incarnation.number + 1 = omega (arith, given) in
    by_member (λ j. HasEnded life.incarnation.number (seat_of (manager_in j p.managers)) → HasEnded life.incarnation.number (seat_of (manager_in j q.managers))) m
    (λ e. subst (λ (x : Manager). HasEnded life.incarnation.number (seat_of x)) (sym (manager_same m (upped m p) p.managers has.manager)) (start_ended life.incarnation.number (upped m p).incarnation.number (seat_of old) next e))
    (λ j differ e. subst (λ (x : Manager). HasEnded life.incarnation.number (seat_of x)) (sym (manager_other m j (upped m p) p.managers differ)) e) life.member over

over_same : (life : FailedLife) (p q : Owned) → q.managers ≡ p.managers → IsOver life p → IsOver life q
over_same life p q is over = over_stays life p q (seated p q p.managers is (none_seated p.managers)) over

reads_over : (life : FailedLife) (w : StartWork) (p : Owned) (turn : StartTurn) (v : StartWork) (q : Owned) → starts.Reads w p turn v q → IsOver life p → IsOver life q
reads_over life w p turn v q reads over = over_same life p q (ap (λ (x : Owned). x.managers) reads.0.others) over

acts_over : (a b : ℕ) (life : FailedLife) (phase : StartPhase) (w : StartWork) (p : Owned) (result : Result StartTurn StartLacks) (v : StartWork) (q : Owned) → IsSteady a b p → HasMember w.member p → starts.Acts phase w p result v q → IsOver life p → IsOver life q
acts_over a b life starting.Check w p result v q s has acts over = over_same life p q (ap (λ (x : Owned). x.managers) (made (starts.after_check w p) result v q acts ∙ checked_same (manager_in w.member p.managers).up w p)) over
acts_over a b life starting.Low w p result v q s has acts over = over_same life p q (ap (λ (x : Owned). x.managers) (made (starts.after_low w p) result v q acts)) over
acts_over a b life starting.Read w p (Ok turn) v q s has acts over = reads_over life w p turn v q acts over
acts_over a b life starting.Read w p (Err e) v q s has acts over = absurd acts
acts_over a b life (starting.Begin page) w p result v q s has acts over = subst (IsOver life) (sym (made (starts.after_begin page w p) result v q acts)) (started_over a b life w.member page p s has over)

goes_over : (a b : ℕ) (life : FailedLife) (w : StartWork) (p : Owned) (result : Result StartTurn StartLacks) (v : StartWork) (q : Owned) → IsSteady a b p → HasMember w.member p → starts.GoesOn w p result v q → IsOver life p → IsOver life q
goes_over a b life w p result v q s has (inl given) over = subst (IsOver life) (sym given.parts_are) over
goes_over a b life w p result v q s has (inr (inl lacks)) over = subst (IsOver life) (sym lacks.parts_are) over
goes_over a b life w p result v q s has (inr (inr acted)) over = acts_over a b life w.phase (record w { walk = acted.walk }) p result v q s has acted.acts over

at_over : (a b : ℕ) (life : FailedLife) (phase : StartPhase) (w : StartWork) (p : Owned) (result : Result StartTurn StartLacks) (v : StartWork) (q : Owned) → IsSteady a b p → HasMember w.member p → starts.NextAt phase w p result v q → IsOver life p → IsOver life q
at_over a b life starting.Check w p result v q s has next over = acts_over a b life starting.Check w p result v q s has next over
at_over a b life starting.Low w p result v q s has next over = acts_over a b life starting.Low w p result v q s has next over
at_over a b life starting.Read w p result v q s has next over = goes_over a b life w p result v q s has next over
at_over a b life (starting.Begin page) w p result v q s has next over = goes_over a b life w p result v q s has next over

pub start_over : (a b : ℕ) (life : FailedLife) (w : StartWork) (p : Owned) (result : Result StartTurn StartLacks) (v : StartWork) (q : Owned) → IsSteady a b p → HasMember w.member p → starts.NextStart w p result v q → IsOver life p → IsOver life q
start_over a b life w p result v q s has next over = at_over a b life w.phase w p result v q s has next over
