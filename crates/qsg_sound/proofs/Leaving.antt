-- what a request leaves of the logs of other members, and of the repository
use Rattle.std.proofs.Common.{◌≡◌, ℕ, ◌-◌, Bool, true, false, cond, List, Option, Some, None, Result, Ok, Err, refl, sym, ap, subst, ◌∙◌, arith}
use Rattle.std.proofs.lemmas.List.{get_or-set_other}
use Rattle.qsg_num.specs.declared.ids.PageNo.{PageNo}
use Rattle.qsg_num.specs.declared.ids.UnitName.{UnitName}
use Rattle.qsg_num.specs.declared.seats.Member.{Member}
use Rattle.qsg_num.specs.declared.seats.TaskNo.{TaskNo}
use Rattle.qsg_num.specs.Seats.{member_number}
use Rattle.qsg_lists.specs.declared.parts.Entry.{Entry}
use Rattle.qsg_lists.specs.declared.parts.Lost.{Lost}
use Rattle.qsg_lists.specs.declared.parts.Seen.{Seen}
use Rattle.qsg_lists.specs.declared.parts.Selector.{Selector}
use Rattle.qsg_lists.specs.declared.parts.WriteWhy.{WriteWhy}
use Rattle.qsg_logpage.specs.declared.writer.NoLog.{NoLog}
use Rattle.qsg_repo.specs.Calls.{has_failed, later_page, published as told_low}
use Rattle.qsg_repo.specs.Tables.{Repository, page_at, low_of, with_low}
use Rattle.qsg_requests.specs.declared.replies.Reason.{Reason}
use Rattle.qsg_requests.specs.declared.replies.Turn.{Turn}
use Rattle.qsg_requests.specs.declared.words.PutWords.{PutWords}
use Rattle.qsg_group.specs.declared.tasks.Claim.{Claim}
use Rattle.qsg_manager.specs.Settles.{next_claim}
use Rattle.qsg_manager.specs.Storage.{task_at}
use Rattle.qsg_logs.specs.Kept.{KeptLog, log_in, with_log}
use Rattle.qsg_parts.specs.Owned.{Owned}
use Rattle.qsg_steady.specs.Steady.{IsSteady}
use Rattle.qsg_steady.proofs.Places.{member_some, log_other}
use Rattle.qsg_put.specs.declared.checking.Terms.{Terms as PutTerms}
use Rattle.qsg_put.specs.declared.phases.Phase.{Phase as PutPhase}
use Rattle.qsg_put.specs.declared.phases.Phase.TheVariants as putting
use Rattle.qsg_put.specs.Steps as puts
use Rattle.qsg_put.specs.Works.{Work as PutWork}
use Rattle.qsg_get.specs.declared.checking.Terms.{Terms as GetTerms}
use Rattle.qsg_get.specs.declared.phases.Phase.{Phase as GetPhase}
use Rattle.qsg_get.specs.declared.phases.Phase.TheVariants as getting
use Rattle.qsg_get.specs.Steps as gets
use Rattle.qsg_get.specs.Works.{Work as GetWork}
use Rattle.qsg_commit.specs.declared.phases.Phase.{Phase as EndPhase}
use Rattle.qsg_commit.specs.declared.phases.Phase.TheVariants as ending
use Rattle.qsg_commit.specs.declared.phases.StepError.{StepError}
use Rattle.qsg_commit.specs.declared.phases.StepError.TheVariants.{NoMemory, LogFailed}
use Rattle.qsg_commit.specs.declared.phases.Taken.{Taken}
use Rattle.qsg_commit.specs.declared.phases.Taken.TheVariants.{Nothing, Busy, Begun}
use Rattle.qsg_commit.specs.Committing.{take_answer, IsPageMade, IsFailedPage}
use Rattle.qsg_commit.specs.Ending.{settled_by, settled, is_settled, ended, low_page, ended_if_settled, published, given_up, undone}
use Rattle.qsg_commit.specs.Next as ends
use Rattle.qsg_commit.specs.Pending.{pending}
use Rattle.qsg_works.specs.declared.work.Work.{Work}
use Rattle.qsg_works.specs.declared.work.Work.TheVariants.{Put, Get, Commit}
use Rattle.qsg_works.specs.Steps.{NextPut, NextGet, NextWork}
use Rattle.qsg_fit.specs.Fits.{member_of}
use Rattle.qsg_fit.specs.Requests.{IsOwnEnd, IsRequestOf, IsSteadyBeside, has_end_begun}
use Rattle.qsg_fit.proofs.Settling.{pending_unit}
use Rattle.qsg_lives.proofs.Requests.{steady_of}

-- The logs and the low pages of all members but one, and the incarnations, are as they were.
pub record LeavesOthers (m : Member) (p q : Owned) : Type 0 where
  pub logs : (k : Member) → (member_number k ≡ member_number m → ⊥) → log_in k q.logs ≡ log_in k p.logs
  pub lows : (k : Member) → (member_number k ≡ member_number m → ⊥) → low_of k q.repo ≡ low_of k p.repo
  pub lives : q.repo.lives ≡ p.repo.lives
  pub starts : q.repo.starts ≡ p.repo.starts

none_left : (m : Member) (p q : Owned) → q.logs ≡ p.logs → q.repo ≡ p.repo → LeavesOthers m p q
none_left m p q logs repo = record {
  logs = λ k differ. ap (log_in k) logs;
  lows = λ k differ. ap (low_of k) repo;
  lives = ap (λ (x : Repository). x.lives) repo;
  starts = ap (λ (x : Repository). x.starts) repo;
}

log_left : (m : Member) (y : KeptLog) (p q : Owned) → q.logs ≡ with_log m y p.logs → q.repo ≡ p.repo → LeavesOthers m p q
log_left m y p q logs repo = record {
  logs = λ k differ. ap (log_in k) logs ∙ log_other m k y p.logs differ;
  lows = λ k differ. ap (low_of k) repo;
  lives = ap (λ (x : Repository). x.lives) repo;
  starts = ap (λ (x : Repository). x.starts) repo;
}

then_left : (m : Member) (p q r : Owned) → LeavesOthers m p q → LeavesOthers m q r → LeavesOthers m p r
then_left m p q r first then = record {
  logs = λ k differ. then.logs k differ ∙ first.logs k differ;
  lows = λ k differ. then.lows k differ ∙ first.lows k differ;
  lives = then.lives ∙ first.lives;
  starts = then.starts ∙ first.starts;
}

-- ---- a put

put_reserved : (m : Member) (t : TaskNo) (words : PutWords) (terms : PutTerms) (p : Owned) (answer : Result (Unit {0}) NoLog) → LeavesOthers m p (puts.after_reserve m t words terms p answer).parts
put_reserved m t words terms p (Err why) = none_left m p p refl refl
put_reserved m t words terms p (Ok done) = log_left m _ p _ refl refl

put_checked : (m : Member) (t : TaskNo) (words : PutWords) (p : Owned) (answer : Result PutTerms Reason) → LeavesOthers m p (puts.after_check m t words p answer).parts
put_checked m t words p (Err reason) = none_left m p p refl refl
put_checked m t words p (Ok terms) = put_reserved m t words terms p _

put_connected : (m : Member) (t : TaskNo) (u : UnitName) (terms : PutTerms) (p : Owned) (answer : Result Seen Lost) → LeavesOthers m p (puts.after_connect m t u terms p answer).parts
put_connected m t u terms p (Err lost) = log_left m _ p _ refl refl
put_connected m t u terms p (Ok seen) = none_left m p p refl refl

put_refused : (m : Member) (t : TaskNo) (u : UnitName) (terms : PutTerms) (epoch : ℕ) (p : Owned) (reason : Option Reason) → LeavesOthers m p (puts.after_refusal m t u terms epoch p reason).parts
put_refused m t u terms epoch p (Some reason) = log_left m _ p _ refl refl
put_refused m t u terms epoch p None = none_left m p p refl refl

put_written : (m : Member) (t : TaskNo) (words : PutWords) (u : UnitName) (terms : PutTerms) (epoch : ℕ) (p : Owned) (why : Option WriteWhy) → LeavesOthers m p (puts.after_write m t words u terms epoch p why).parts
put_written m t words u terms epoch p None = log_left m _ p _ refl refl
put_written m t words u terms epoch p (Some why) = put_refused m t u terms epoch p (puts.reason_of why)

put_left : (m : Member) (t : TaskNo) (words : PutWords) (p : Owned) (phase : PutPhase) → LeavesOthers m p (puts.next_at m t words p phase).parts
put_left m t words p putting.Check = put_checked m t words p _
put_left m t words p (putting.Connect u terms) = put_connected m t u terms p _
put_left m t words p (putting.Write u terms epoch) = put_written m t words u terms epoch p _

put_step : (old new : PutWork) (p q : Owned) (result : Result Turn StepError) → NextPut old p result new q → LeavesOthers old.member p q
put_step old new p q (Ok turn) next = subst (LeavesOthers old.member p) (sym (ap (λ (n : puts.Next). n.parts) next.1)) (put_left old.member old.task old.words p old.phase)
put_step old new p q (Err NoMemory) next = none_left old.member p q (ap (λ (x : Owned). x.logs) next.1) (ap (λ (x : Owned). x.repo) next.1)
put_step old new p q (Err LogFailed) next = absurd next

-- ---- a get

get_reserved : (m : Member) (t : TaskNo) (terms : GetTerms) (p : Owned) (answer : Result (Unit {0}) NoLog) → LeavesOthers m p (gets.after_reserve m t terms p answer).parts
get_reserved m t terms p (Err why) = none_left m p p refl refl
get_reserved m t terms p (Ok done) = log_left m _ p _ refl refl

get_checked : (m : Member) (t : TaskNo) (p : Owned) (answer : Result GetTerms Reason) → LeavesOthers m p (gets.after_check m t p answer).parts
get_checked m t p (Err reason) = none_left m p p refl refl
get_checked m t p (Ok terms) = get_reserved m t terms p _

get_connected : (m : Member) (t : TaskNo) (u : UnitName) (terms : GetTerms) (p : Owned) (answer : Result Seen Lost) → LeavesOthers m p (gets.after_connect m t u terms p answer).parts
get_connected m t u terms p (Err lost) = log_left m _ p _ refl refl
get_connected m t u terms p (Ok seen) = none_left m p p refl refl

get_taken : (m : Member) (t : TaskNo) (u : UnitName) (terms : GetTerms) (epoch : ℕ) (p : Owned) (lost : Option Lost) (found : Option Entry) → LeavesOthers m p (gets.after_take m t u terms epoch p lost found).parts
get_taken m t u terms epoch p (Some lost) found = log_left m _ p _ refl refl
get_taken m t u terms epoch p None None = log_left m _ p _ refl refl
get_taken m t u terms epoch p None (Some e) = log_left m _ p _ refl refl

get_left : (m : Member) (t : TaskNo) (queue : List ℕ) (select : Selector) (p : Owned) (phase : GetPhase) → LeavesOthers m p (gets.next_at m t queue select p phase).parts
get_left m t queue select p getting.Check = get_checked m t p _
get_left m t queue select p (getting.Connect u terms) = get_connected m t u terms p _
get_left m t queue select p (getting.Take u terms epoch) = get_taken m t u terms epoch p _ _

get_step : (old new : GetWork) (p q : Owned) (result : Result Turn StepError) → NextGet old p result new q → LeavesOthers old.member p q
get_step old new p q (Ok turn) next = subst (LeavesOthers old.member p) (sym (ap (λ (n : gets.Next). n.parts) next.1)) (get_left old.member old.task old.queue old.select p old.phase)
get_step old new p q (Err NoMemory) next = none_left old.member p q (ap (λ (x : Owned). x.logs) next.1) (ap (λ (x : Owned). x.repo) next.1)
get_step old new p q (Err LogFailed) next = absurd next

-- ---- a COMMIT or BACKOUT

mark_left : (u : UnitName) (t : TaskNo) (next : Option Claim) (p : Owned) → LeavesOthers u.member p (settled_by u t next p)
mark_left u t None p = none_left u.member p p refl refl
mark_left u t (Some c) p = none_left u.member p _ refl refl

end_left : (u : UnitName) (t : TaskNo) (p : Owned) → LeavesOthers u.member p (ended u t p)
end_left u t p = log_left u.member _ p _ refl refl

settled_end_left : (u : UnitName) (t : TaskNo) (p : Owned) → LeavesOthers u.member p (ended_if_settled u t p)
settled_end_left u t p = by (is_settled u t p)
  where
    by : (b : Bool) → LeavesOthers u.member p (cond b (ended u t p) p)
    by true = end_left u t p
    by false = none_left u.member p p refl refl

undone_left : (u : UnitName) (t : TaskNo) (p : Owned) → LeavesOthers u.member p (undone u t p)
undone_left u t p = then_left u.member p (settled u t p) (undone u t p) (mark_left u t (next_claim (task_at u.member t p.managers)) p) (settled_end_left u t (settled u t p))

low_other : (m k : Member) (page : PageNo) (repo : Repository) → (member_number k ≡ member_number m → ⊥) → low_of k (with_low m page repo) ≡ low_of k repo
low_other m k page repo differ = let one = member_some m in let two = member_some k in get_or-set_other repo.lows (member_number m - 1) (member_number k - 1) page (page_at 0) (λ e. differ (omega arith))

-- a low page that is told is the member's own
record TellsLow (m : Member) (old new : Repository) : Type 0 where
  pub lows : (k : Member) → (member_number k ≡ member_number m → ⊥) → low_of k new ≡ low_of k old
  pub lives : new.lives ≡ old.lives
  pub starts : new.starts ≡ old.starts

told_left : (m : Member) (page : PageNo) (repo : Repository) → TellsLow m repo (told_low m page repo)
told_left m page repo = by (has_failed m repo)
  where
    by : (b : Bool) → TellsLow m repo (cond b repo (with_low m (later_page (low_of m repo) page) repo))
    by true = record { lows = λ k differ. refl; lives = refl; starts = refl }
    by false = record { lows = λ k differ. low_other m k (later_page (low_of m repo) page) repo differ; lives = refl; starts = refl }

published_left : (u : UnitName) (t : TaskNo) (p : Owned) → LeavesOthers u.member p (published u t p)
published_left u t p =
    let before = ended u t p in
    let told = told_left u.member (low_page u.member before) before.repo in
    then_left u.member p before (published u t p) (end_left u t p) (record { logs = λ k differ. refl; lows = told.lows; lives = told.lives; starts = told.starts })

give_up_left : (m : Member) (t : TaskNo) (found : Option (UnitName × ℕ)) (p : Owned) → ((u : UnitName) (n : ℕ) → found ≡ Some (u, n) → u.member ≡ m) → LeavesOthers m p (ends.after_give_up t found p).parts
give_up_left m t None p own = none_left m p p refl refl
give_up_left m t (Some (u, n)) p own =
    subst (λ k. LeavesOthers k p (ends.after_give_up t (Some (u, n)) p).parts) (own u n refl)
    (then_left u.member p (given_up u t p) (undone u t (given_up u t p)) (none_left u.member p (given_up u t p) refl refl) (undone_left u t (given_up u t p)))

latch_left : (m : Member) (t : TaskNo) (taken : Taken) (p : Owned) (turn : Turn) (phase : EndPhase) (q : Owned) → ends.LatchStep m t taken p turn phase q → LeavesOthers m p q
latch_left m t Nothing p turn phase q step = subst (LeavesOthers m p) (sym step.2) (none_left m p p refl refl)
latch_left m t (Busy busy) p turn phase q step = subst (LeavesOthers m p) (sym step.2) (none_left m p p refl refl)
latch_left m t (Begun u count) p turn phase q step = subst (LeavesOthers m p) (sym step.2.parts) (log_left m _ p _ refl refl)

page_left : (u : UnitName) (t : TaskNo) (done : Bool) (p q : Owned) → IsPageMade u t done p q → LeavesOthers u.member p q
page_left u t true p q made = subst (LeavesOthers u.member p) (sym made.parts) (log_left u.member (log_in u.member q.logs) p _ refl refl)
page_left u t false p q made = subst (LeavesOthers u.member p) (sym made) (log_left u.member (log_in u.member q.logs) p _ refl refl)

failed_left : (m : Member) (p q : Owned) → IsFailedPage m p q → LeavesOthers m p q
failed_left m p q failed = subst (LeavesOthers m p) (sym failed.parts) (log_left m (log_in m q.logs) p _ refl refl)

end_at : (a b : ℕ) (m : Member) (t : TaskNo) (phase : EndPhase) (p : Owned) (result : Result Turn StepError) (after : EndPhase) (q : Owned) → IsSteady a b p → IsOwnEnd m phase → ends.NextAt m t phase p result after q → LeavesOthers m p q
end_at a b m t ending.Latch p (Ok turn) after q s own next = latch_left m t (take_answer m t p) p turn after q next
end_at a b m t ending.Latch p (Err NoMemory) after q s own next = subst (LeavesOthers m p) (sym next.1.same) (none_left m p _ refl refl)
end_at a b m t ending.Latch p (Err LogFailed) after q s own next = absurd next
end_at a b m t (ending.Pages u count) p (Ok turn) after q s own (done, is, at, step) = subst (λ k. LeavesOthers k p q) own (page_left u t done p q step.made)
end_at a b m t (ending.Pages u count) p (Err NoMemory) after q s own next = absurd next
end_at a b m t (ending.Pages u count) p (Err LogFailed) after q s own next = subst (λ k. LeavesOthers k p q) own (failed_left u.member p q next.1)
end_at a b m t (ending.Settle u count) p (Ok turn) after q s own next =
    subst (LeavesOthers m p) (sym (ap (λ (n : ends.Next). n.parts) next)) (subst (λ k. LeavesOthers k p (settled u t p)) own (mark_left u t (next_claim (task_at u.member t p.managers)) p))
end_at a b m t (ending.Settle u count) p (Err e) after q s own next = absurd next
end_at a b m t (ending.Publish u count) p (Ok turn) after q s own next =
    subst (LeavesOthers m p) (sym (ap (λ (n : ends.Next). n.parts) next)) (subst (λ k. LeavesOthers k p (published u t p)) own (published_left u t p))
end_at a b m t (ending.Publish u count) p (Err e) after q s own next = absurd next
end_at a b m t ending.GiveUp p (Ok turn) after q s own next =
    subst (LeavesOthers m p) (sym (ap (λ (n : ends.Next). n.parts) next))
    (give_up_left m t (pending (task_at m t p.managers)) p (λ u n is. s.own m t u (pending_unit (task_at m t p.managers) u n is)))
end_at a b m t ending.GiveUp p (Err e) after q s own next = absurd next
end_at a b m t (ending.Undo u count) p (Ok turn) after q s own next =
    subst (LeavesOthers m p) (sym (ap (λ (n : ends.Next). n.parts) next)) (subst (λ k. LeavesOthers k p (undone u t p)) own (undone_left u t p))
end_at a b m t (ending.Undo u count) p (Err e) after q s own next = absurd next

-- ---- a request

pub request_leaves : (a b : ℕ) (before work : Work) (p q : Owned) (result : Result Turn StepError) → IsSteadyBeside a b before p → IsRequestOf before p → NextWork before p result work q → LeavesOthers (member_of before) p q
request_leaves a b (Put old) (Put new) p q result s fits next = put_step old new p q result next
request_leaves a b (Put old) (Get new) p q result s fits next = absurd next
request_leaves a b (Put old) (Commit new) p q result s fits next = absurd next
request_leaves a b (Get old) (Put new) p q result s fits next = absurd next
request_leaves a b (Get old) (Get new) p q result s fits next = get_step old new p q result next
request_leaves a b (Get old) (Commit new) p q result s fits next = absurd next
request_leaves a b (Commit old) (Put new) p q result s fits next = absurd next
request_leaves a b (Commit old) (Get new) p q result s fits next = absurd next
request_leaves a b (Commit old) (Commit new) p q result s fits next =
    let is = steady_of (has_end_begun old.phase) a b p s in
    end_at a is.busy old.member old.task old.phase p result new.phase q is.steady fits.own next.next

-- the log of a request fails in a page only
pub request_fails : (before work : Work) (p q : Owned) → IsRequestOf before p → NextWork before p (Err LogFailed) work q → IsFailedPage (member_of before) p q
request_fails (Put old) (Put new) p q fits next = absurd next
request_fails (Put old) (Get new) p q fits next = absurd next
request_fails (Put old) (Commit new) p q fits next = absurd next
request_fails (Get old) (Put new) p q fits next = absurd next
request_fails (Get old) (Get new) p q fits next = absurd next
request_fails (Get old) (Commit new) p q fits next = absurd next
request_fails (Commit old) (Put new) p q fits next = absurd next
request_fails (Commit old) (Get new) p q fits next = absurd next
request_fails (Commit old) (Commit new) p q fits next = by old.phase fits.own next.next
  where
    by : (at : EndPhase) → IsOwnEnd old.member at → ends.NextAt old.member old.task at p (Err LogFailed) new.phase q → IsFailedPage old.member p q
    by ending.Latch own made = absurd made
    by (ending.Pages u count) own made = subst (λ k. IsFailedPage k p q) own made.1
    by (ending.Settle u count) own made = absurd made
    by (ending.Publish u count) own made = absurd made
    by ending.GiveUp own made = absurd made
    by (ending.Undo u count) own made = absurd made
