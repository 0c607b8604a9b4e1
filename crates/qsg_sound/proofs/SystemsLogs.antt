-- how the steps of a request go on with the logs of members
use Rattle.std.proofs.Common.{◌≡◌, inl, inr, ℕ, ◌-◌, ◌≤◌, Bool, true, false, cond, List, length, Option, Some, None, Result, Ok, Err, refl, sym, ap, subst, ◌∙◌, true≢false, length-set, arith}
use Rattle.qsg_num.specs.declared.seats.Member.{Member}
use Rattle.qsg_num.specs.declared.seats.TaskNo.{TaskNo}
use Rattle.qsg_num.specs.declared.ids.PageNo.{PageNo}
use Rattle.qsg_num.specs.declared.ids.UnitName.{UnitName}
use Rattle.qsg_num.specs.Seats.{member_number, structure_number}
use Rattle.qsg_lists.specs.declared.parts.Entry.{Entry}
use Rattle.qsg_lists.specs.declared.parts.Lost.{Lost}
use Rattle.qsg_lists.specs.declared.parts.Seen.{Seen}
use Rattle.qsg_lists.specs.declared.parts.Selector.{Selector}
use Rattle.qsg_lists.specs.declared.parts.WriteWhy.{WriteWhy}
use Rattle.qsg_logpage.specs.declared.writer.NoLog.{NoLog}
use Rattle.qsg_logpage.specs.Log.{Hand}
use Rattle.qsg_requests.specs.declared.replies.Reason.{Reason}
use Rattle.qsg_requests.specs.declared.replies.Turn.{Turn}
use Rattle.qsg_requests.specs.declared.words.PutWords.{PutWords}
use Rattle.qsg_repo.specs.Calls.{has_failed, published as told_low, later_page}
use Rattle.qsg_repo.specs.Tables.{Repository, low_of, with_low, page_at, member_place}
use Rattle.qsg_group.specs.declared.tasks.Claim.{Claim}
use Rattle.qsg_group.proofs.Tables.{cases_member}
use Rattle.qsg_manager.specs.Settles.{next_claim}
use Rattle.qsg_manager.specs.Storage.{manager_in, task_at}
use Rattle.qsg_logs.specs.Kept.{KeptLog, log_in, with_log, with_reserved, fallen_back, with_ended, with_record_of}
use Rattle.qsg_logs.specs.Reading.{IsRead}
use Rattle.qsg_parts.specs.Owned.{Owned}
use Rattle.qsg_put.specs.declared.checking.Terms.{Terms as PutTerms}
use Rattle.qsg_put.specs.declared.phases.Phase.{Phase as PutPhase}
use Rattle.qsg_put.specs.declared.phases.Phase.TheVariants as putting
use Rattle.qsg_put.specs.Messages.{logged}
use Rattle.qsg_put.specs.Steps as puts
use Rattle.qsg_put.specs.Works.{Work as PutWork}
use Rattle.qsg_get.specs.declared.checking.Terms.{Terms as GetTerms}
use Rattle.qsg_get.specs.declared.phases.Phase.{Phase as GetPhase}
use Rattle.qsg_get.specs.declared.phases.Phase.TheVariants as getting
use Rattle.qsg_get.specs.Steps as gets
use Rattle.qsg_get.specs.Works.{Work as GetWork}
use Rattle.qsg_commit.specs.declared.phases.Phase.{Phase as EndPhase}
use Rattle.qsg_commit.specs.declared.phases.Phase.TheVariants as ending
use Rattle.qsg_commit.specs.declared.phases.StepError.{StepError}
use Rattle.qsg_commit.specs.declared.phases.StepError.TheVariants.{NoMemory, LogFailed}
use Rattle.qsg_commit.specs.declared.phases.Taken.{Taken}
use Rattle.qsg_commit.specs.declared.phases.Taken.TheVariants.{Nothing, Busy, Begun}
use Rattle.qsg_commit.specs.Committing.{take_of, take_answer, run_of, IsWritten, IsFailedPage, IsPageStep}
use Rattle.qsg_commit.specs.Ending.{settled_by, settled, is_settled, ended, ended_if_settled, given_up, undone, published, low_page}
use Rattle.qsg_commit.specs.Next as ends
use Rattle.qsg_commit.specs.Pending.{pending}
use Rattle.qsg_works.specs.declared.work.Work.{Work}
use Rattle.qsg_works.specs.declared.work.Work.TheVariants.{Put, Get, Commit}
use Rattle.qsg_works.specs.Steps.{NextPut, NextGet, NextWork}
use Rattle.qsg_steady.specs.Steady.{IsSteady}
use Rattle.qsg_steady.proofs.Gives.{latch_idle}
use Rattle.qsg_steady.proofs.Places.{log_same, log_other, member_some}
use Rattle.qsg_fit.specs.Requests.{IsRequestOf, IsSteadyBeside, IsOwnEnd, has_end_begun}
use Rattle.qsg_fit.proofs.Settling.{pending_unit}
use Rattle.qsg_lives.proofs.Requests.{steady_of}
use Rattle.std.proofs.lemmas.List.{get_or-set_other}

-- ---- what a step does to one log

-- what the bytes tell stays, and no page comes in hand: only what is reserved or counted of units may change
pub record IsQuiet (old new : KeptLog) : Type 0 where
  pub tells : new.tells ≡ old.tells
  pub size : new.writer.size ≡ old.writer.size
  pub next : new.writer.next ≡ old.writer.next
  pub hand : new.writer.hand ≡ old.writer.hand
  pub bytes : old.tells ≡ true → new.bytes ≡ old.bytes

-- a run is taken in hand
pub record IsTakenInHand (old new : KeptLog) : Type 0 where
  pub idle : old.writer.hand ≡ None
  pub hand : Hand
  pub writer : new.writer ≡ record old.writer { hand = Some hand }
  pub bytes : new.bytes ≡ old.bytes
  pub tells : new.tells ≡ old.tells

-- what steps of requests do to a log, whose member may be up
pub data GoesOn (up : Bool) (m : Member) (p q : Owned) : Type 0 where
  quiet : IsQuiet (log_in m p.logs) (log_in m q.logs) → GoesOn up m p q
  begins : up ≡ true → IsTakenInHand (log_in m p.logs) (log_in m q.logs) → GoesOn up m p q
  writes : IsWritten (log_in m p.logs) (log_in m q.logs) → GoesOn up m p q
  fails : IsFailedPage m p q → GoesOn up m p q

pub same_quiet : (log : KeptLog) → IsQuiet log log
same_quiet log = record { tells = refl; size = refl; next = refl; hand = refl; bytes = λ tells. refl }

pub read_quiet : (old new : KeptLog) → IsRead old new → IsQuiet old new
read_quiet old new read = record {
  tells = ap (λ (x : KeptLog). x.tells) read.rest;
  size = ap (λ (x : KeptLog). x.writer.size) read.rest;
  next = ap (λ (x : KeptLog). x.writer.next) read.rest;
  hand = ap (λ (x : KeptLog). x.writer.hand) read.rest;
  bytes = read.bytes;
}

reserved_quiet : (u : UnitName) (pages : ℕ) (log : KeptLog) → IsQuiet log (with_reserved u pages log)
reserved_quiet u pages log = record { tells = refl; size = refl; next = refl; hand = refl; bytes = λ tells. refl }

recorded_quiet : (t : TaskNo) (logged : Option ℕ) (log : KeptLog) → IsQuiet log (with_record_of t logged log)
recorded_quiet t logged log = record { tells = refl; size = refl; next = refl; hand = refl; bytes = λ tells. refl }

fallen_quiet : (t : TaskNo) (u : UnitName) (some : Bool) (log : KeptLog) → IsQuiet log (fallen_back t u some log)
fallen_quiet t u true log = record { tells = refl; size = refl; next = refl; hand = refl; bytes = λ tells. refl }
fallen_quiet t u false log = record { tells = refl; size = refl; next = refl; hand = refl; bytes = λ tells. refl }

ended_quiet : (t : TaskNo) (u : UnitName) (log : KeptLog) → IsQuiet log (with_ended t u log)
ended_quiet t u log = record { tells = refl; size = refl; next = refl; hand = refl; bytes = λ tells. refl }

-- ---- what a step does to all logs

-- No log but for what is said of it changes, low pages stay of members with an unresolved incarnation, no incarnation
-- changes, and no structure comes or goes.
pub record Moves (p q : Owned) : Type 0 where
  pub lives : q.repo.lives ≡ p.repo.lives
  pub starts : q.repo.starts ≡ p.repo.starts
  pub lows : (k : Member) → has_failed k p.repo ≡ true → low_of k q.repo ≡ low_of k p.repo
  pub logs : length q.logs ≡ length p.logs
  pub structures : length q.structures ≡ length p.structures
  pub goes : (k : Member) → GoesOn (manager_in k p.managers).up k p q

pub unmoved : (p q : Owned) → q.repo ≡ p.repo → q.logs ≡ p.logs → length q.structures ≡ length p.structures → Moves p q
unmoved p q repo logs count = record {
  lives = ap (λ (x : Repository). x.lives) repo;
  starts = ap (λ (x : Repository). x.starts) repo;
  lows = λ k failed. ap (low_of k) repo;
  logs = ap length logs;
  structures = count;
  goes = λ k. quiet (subst (IsQuiet (log_in k p.logs)) (sym (ap (log_in k) logs)) (same_quiet (log_in k p.logs)));
}

pub same_moves : (p q : Owned) → q ≡ p → Moves p q
same_moves p q is = unmoved p q (ap (λ (x : Owned). x.repo) is) (ap (λ (x : Owned). x.logs) is) (ap length (ap (λ (x : Owned). x.structures) is))

-- the log of one member changed
one_goes : (m : Member) (y : KeptLog) (p q : Owned) → q.logs ≡ with_log m y p.logs → GoesOn (manager_in m p.managers).up m p q → (k : Member) → GoesOn (manager_in k p.managers).up k p q
one_goes m y p q is own k = elim (cases_member k m) [
  | inl same ↦ subst (λ j. GoesOn (manager_in j p.managers).up j p q) (sym same) own
  | inr differ ↦ quiet (subst (IsQuiet (log_in k p.logs)) (sym (ap (log_in k) is ∙ log_other m k y p.logs differ)) (same_quiet (log_in k p.logs)))
]

one_moves : (m : Member) (y : KeptLog) (p q : Owned) → q.repo ≡ p.repo → q.logs ≡ with_log m y p.logs → length q.structures ≡ length p.structures → GoesOn (manager_in m p.managers).up m p q → Moves p q
one_moves m y p q repo is count own = record {
  lives = ap (λ (x : Repository). x.lives) repo;
  starts = ap (λ (x : Repository). x.starts) repo;
  lows = λ k failed. ap (low_of k) repo;
  logs = ap length is ∙ length-set p.logs (member_number m - 1) y;
  structures = count;
  goes = one_goes m y p q is own;
}

quietly : (m : Member) (y : KeptLog) (p q : Owned) → member_number m ≤ length p.logs → q.repo ≡ p.repo → q.logs ≡ with_log m y p.logs → length q.structures ≡ length p.structures → IsQuiet (log_in m p.logs) y → Moves p q
quietly m y p q has repo is count own =
    one_moves m y p q repo is count (quiet (subst (IsQuiet (log_in m p.logs)) (sym (ap (log_in m) is ∙ log_same m y p.logs has)) own))

-- ---- a put

put_reserved : (m : Member) (t : TaskNo) (words : PutWords) (terms : PutTerms) (p : Owned) (answer : Result (Unit {0}) NoLog) → member_number m ≤ length p.logs → Moves p (puts.after_reserve m t words terms p answer).parts
put_reserved m t words terms p (Err why) has = same_moves p p refl
put_reserved m t words terms p (Ok done) has =
    quietly m _ p (puts.after_reserve m t words terms p (Ok done)).parts has refl refl refl (reserved_quiet (puts.unit_of m t p.managers) (puts.need m t words terms p) (log_in m p.logs))

put_checked : (m : Member) (t : TaskNo) (words : PutWords) (p : Owned) (answer : Result PutTerms Reason) → member_number m ≤ length p.logs → Moves p (puts.after_check m t words p answer).parts
put_checked m t words p (Err reason) has = same_moves p p refl
put_checked m t words p (Ok terms) has = put_reserved m t words terms p _ has

put_fallen : (m : Member) (t : TaskNo) (u : UnitName) (p : Owned) → member_number m ≤ length p.logs → Moves p (puts.fallen m t u p)
put_fallen m t u p has = quietly m _ p (puts.fallen m t u p) has refl refl refl (fallen_quiet t u (puts.has_operations m t p.managers) (log_in m p.logs))

put_connected : (m : Member) (t : TaskNo) (u : UnitName) (terms : PutTerms) (p : Owned) (answer : Result Seen Lost) → member_number m ≤ length p.logs → Moves p (puts.after_connect m t u terms p answer).parts
put_connected m t u terms p (Err lost) has = put_fallen m t u p has
put_connected m t u terms p (Ok seen) has = same_moves p p refl

put_refused : (m : Member) (t : TaskNo) (u : UnitName) (terms : PutTerms) (epoch : ℕ) (p : Owned) (reason : Option Reason) → member_number m ≤ length p.logs → Moves p (puts.after_refusal m t u terms epoch p reason).parts
put_refused m t u terms epoch p (Some reason) has = put_fallen m t u p has
put_refused m t u terms epoch p None has = same_moves p p refl

put_written : (m : Member) (t : TaskNo) (words : PutWords) (u : UnitName) (terms : PutTerms) (epoch : ℕ) (p : Owned) (why : Option WriteWhy) → member_number m ≤ length p.logs → Moves p (puts.after_write m t words u terms epoch p why).parts
put_written m t words u terms epoch p None has =
    quietly m _ p (puts.after_write m t words u terms epoch p None).parts has refl refl (length-set p.structures (structure_number terms.structure - 1) _) (recorded_quiet t (logged words terms) (log_in m p.logs))
put_written m t words u terms epoch p (Some why) has = put_refused m t u terms epoch p (puts.reason_of why) has

put_at : (m : Member) (t : TaskNo) (words : PutWords) (p : Owned) (phase : PutPhase) → member_number m ≤ length p.logs → Moves p (puts.next_at m t words p phase).parts
put_at m t words p putting.Check has = put_checked m t words p _ has
put_at m t words p (putting.Connect u terms) has = put_connected m t u terms p _ has
put_at m t words p (putting.Write u terms epoch) has = put_written m t words u terms epoch p _ has

put_step : (old new : PutWork) (p q : Owned) (result : Result Turn StepError) → member_number old.member ≤ length p.logs → NextPut old p result new q → Moves p q
put_step old new p q (Ok turn) has next = subst (Moves p) (sym (ap (λ (n : puts.Next). n.parts) next.1)) (put_at old.member old.task old.words p old.phase has)
put_step old new p q (Err NoMemory) has next = same_moves p q next.1
put_step old new p q (Err LogFailed) has next = absurd next

-- ---- a get

get_reserved : (m : Member) (t : TaskNo) (terms : GetTerms) (p : Owned) (answer : Result (Unit {0}) NoLog) → member_number m ≤ length p.logs → Moves p (gets.after_reserve m t terms p answer).parts
get_reserved m t terms p (Err why) has = same_moves p p refl
get_reserved m t terms p (Ok done) has =
    quietly m _ p (gets.after_reserve m t terms p (Ok done)).parts has refl refl refl (reserved_quiet (gets.unit_of m t p.managers) (gets.need m t p) (log_in m p.logs))

get_checked : (m : Member) (t : TaskNo) (p : Owned) (answer : Result GetTerms Reason) → member_number m ≤ length p.logs → Moves p (gets.after_check m t p answer).parts
get_checked m t p (Err reason) has = same_moves p p refl
get_checked m t p (Ok terms) has = get_reserved m t terms p _ has

get_fallen : (m : Member) (t : TaskNo) (u : UnitName) (p : Owned) → member_number m ≤ length p.logs → Moves p (gets.fallen m t u p)
get_fallen m t u p has = quietly m _ p (gets.fallen m t u p) has refl refl refl (fallen_quiet t u (gets.has_operations m t p.managers) (log_in m p.logs))

get_connected : (m : Member) (t : TaskNo) (u : UnitName) (terms : GetTerms) (p : Owned) (answer : Result Seen Lost) → member_number m ≤ length p.logs → Moves p (gets.after_connect m t u terms p answer).parts
get_connected m t u terms p (Err lost) has = get_fallen m t u p has
get_connected m t u terms p (Ok seen) has = same_moves p p refl

get_taken : (m : Member) (t : TaskNo) (u : UnitName) (terms : GetTerms) (epoch : ℕ) (p : Owned) (lost : Option Lost) (found : Option Entry) → member_number m ≤ length p.logs → Moves p (gets.after_take m t u terms epoch p lost found).parts
get_taken m t u terms epoch p (Some lost) found has = get_fallen m t u p has
get_taken m t u terms epoch p None None has = get_fallen m t u p has
get_taken m t u terms epoch p None (Some e) has =
    quietly m _ p (gets.after_take m t u terms epoch p None (Some e)).parts has refl refl (length-set p.structures (structure_number terms.structure - 1) _)
    (record { tells = refl; size = refl; next = refl; hand = refl; bytes = λ tells. refl })

get_at : (m : Member) (t : TaskNo) (queue : List ℕ) (select : Selector) (p : Owned) (phase : GetPhase) → member_number m ≤ length p.logs → Moves p (gets.next_at m t queue select p phase).parts
get_at m t queue select p getting.Check has = get_checked m t p _ has
get_at m t queue select p (getting.Connect u terms) has = get_connected m t u terms p _ has
get_at m t queue select p (getting.Take u terms epoch) has = get_taken m t u terms epoch p _ _ has

get_step : (old new : GetWork) (p q : Owned) (result : Result Turn StepError) → member_number old.member ≤ length p.logs → NextGet old p result new q → Moves p q
get_step old new p q (Ok turn) has next = subst (Moves p) (sym (ap (λ (n : gets.Next). n.parts) next.1)) (get_at old.member old.task old.queue old.select p old.phase has)
get_step old new p q (Err NoMemory) has next = same_moves p q next.1
get_step old new p q (Err LogFailed) has next = absurd next

-- ---- a COMMIT or BACKOUT

mark_count : (u : UnitName) (t : TaskNo) (next : Option Claim) (p : Owned) → length (settled_by u t next p).structures ≡ length p.structures
mark_count u t None p = refl
mark_count u t (Some c) p = length-set p.structures (structure_number c.connection.structure - 1) _

mark_moves : (u : UnitName) (t : TaskNo) (next : Option Claim) (p : Owned) → Moves p (settled_by u t next p)
mark_moves u t None p = same_moves p p refl
mark_moves u t (Some c) p = unmoved p (settled_by u t (Some c) p) refl refl (mark_count u t (Some c) p)

-- a unit ends in parts that have the same logs
ended_moves : (u : UnitName) (t : TaskNo) (o p q : Owned) → member_number u.member ≤ length o.logs → p.repo ≡ o.repo → p.logs ≡ o.logs → length p.structures ≡ length o.structures → q ≡ ended_if_settled u t p → Moves o q
ended_moves u t o p q has repo logs count is = subst (Moves o) (sym is) (by (is_settled u t p))
  where
    by : (b : Bool) → Moves o (cond b (ended u t p) p)
    by true = quietly u.member (with_ended t u (log_in u.member p.logs)) o (ended u t p) has repo (ap (with_log u.member (with_ended t u (log_in u.member p.logs))) logs) count
        (subst (λ l. IsQuiet (log_in u.member o.logs) (with_ended t u (log_in u.member l))) (sym logs) (ended_quiet t u (log_in u.member o.logs)))
    by false = unmoved o p repo logs count

mark_repo : (u : UnitName) (t : TaskNo) (next : Option Claim) (p : Owned) → (settled_by u t next p).repo ≡ p.repo
mark_repo u t None p = refl
mark_repo u t (Some c) p = refl

mark_logs : (u : UnitName) (t : TaskNo) (next : Option Claim) (p : Owned) → (settled_by u t next p).logs ≡ p.logs
mark_logs u t None p = refl
mark_logs u t (Some c) p = refl

undone_moves : (u : UnitName) (t : TaskNo) (o p : Owned) → member_number u.member ≤ length o.logs → p.repo ≡ o.repo → p.logs ≡ o.logs → p.structures ≡ o.structures → Moves o (undone u t p)
undone_moves u t o p has repo logs structures =
    let next = next_claim (task_at u.member t p.managers) in
    ended_moves u t o (settled u t p) (undone u t p) has (mark_repo u t next p ∙ repo) (mark_logs u t next p ∙ logs)
    (mark_count u t next p ∙ ap length structures) refl

give_up_moves : (a b : ℕ) (m : Member) (t : TaskNo) (found : Option (UnitName × ℕ)) (p : Owned) → IsSteady a b p → member_number m ≤ length p.logs → pending (task_at m t p.managers) ≡ found → Moves p (ends.after_give_up t found p).parts
give_up_moves a b m t None p s has is = same_moves p p refl
give_up_moves a b m t (Some (u, count)) p s has is =
    let own = s.own m t u (pending_unit (task_at m t p.managers) u count is) in
    undone_moves u t p (given_up u t p) (subst (λ k. member_number k ≤ length p.logs) (sym own) has) refl refl refl

-- low pages stay of members with an unresolved incarnation
low_told : (m k : Member) (page : PageNo) (repo : Repository) → has_failed k repo ≡ true → low_of k (told_low m page repo) ≡ low_of k repo
low_told m k page repo failed = by (has_failed m repo) refl
  where
    by : (b : Bool) → has_failed m repo ≡ b → low_of k (cond b repo (with_low m (later_page (low_of m repo) page) repo)) ≡ low_of k repo
    by true is = refl
    by false is = elim (cases_member k m) [
      | inl same ↦ absurd (true≢false (sym failed ∙ ap (λ j. has_failed j repo) same ∙ is))
      | inr differ ↦ let one = member_some m in let two = member_some k in get_or-set_other repo.lows (member_place m) (member_place k) (later_page (low_of m repo) page) (page_at 0) (λ e. differ (omega arith))
    ]

lives_told : (m : Member) (page : PageNo) (repo : Repository) → (told_low m page repo).lives ≡ repo.lives
lives_told m page repo = by (has_failed m repo)
  where
    by : (b : Bool) → (cond b repo (with_low m (later_page (low_of m repo) page) repo)).lives ≡ repo.lives
    by true = refl
    by false = refl

starts_told : (m : Member) (page : PageNo) (repo : Repository) → (told_low m page repo).starts ≡ repo.starts
starts_told m page repo = by (has_failed m repo)
  where
    by : (b : Bool) → (cond b repo (with_low m (later_page (low_of m repo) page) repo)).starts ≡ repo.starts
    by true = refl
    by false = refl

publish_moves : (u : UnitName) (t : TaskNo) (p : Owned) → member_number u.member ≤ length p.logs → Moves p (published u t p)
publish_moves u t p has =
    let m = u.member in
    let page = low_page m (ended u t p) in
    let ends = quietly m (with_ended t u (log_in m p.logs)) p (ended u t p) has refl refl refl (ended_quiet t u (log_in m p.logs)) in
    record {
      lives = lives_told m page p.repo;
      starts = starts_told m page p.repo;
      lows = λ k failed. low_told m k page p.repo failed;
      logs = ends.logs;
      structures = refl;
      goes = one_goes m (with_ended t u (log_in m p.logs)) p (published u t p) refl
          (quiet (subst (IsQuiet (log_in m p.logs)) (sym (log_same m (with_ended t u (log_in m p.logs)) p.logs has)) (ended_quiet t u (log_in m p.logs))));
    }

-- the latch is taken where it is free, by a unit, whose member is up
take_free : (unit : Option (UnitName × ℕ)) (latch : Option TaskNo) (u : UnitName) (count : ℕ) → take_of unit latch ≡ Begun u count → (unit ≡ Some (u, count)) × (latch ≡ None)
take_free None latch u count is = cc
take_free (Some x) (Some busy) u count is = cc
take_free (Some (x, n)) None u count is = (λ i. Some (begun_unit (is i) u, begun_count (is i) count), refl)
  where
    begun_unit : Taken → UnitName → UnitName
    begun_unit (Begun x n) d = x
    begun_unit Nothing d = d
    begun_unit (Busy busy) d = d

    begun_count : Taken → ℕ → ℕ
    begun_count (Begun x n) d = n
    begun_count Nothing d = d
    begun_count (Busy busy) d = d

latch_moves : (a b : ℕ) (m : Member) (t : TaskNo) (taken : Taken) (p : Owned) (turn : Turn) (phase : EndPhase) (q : Owned) → IsSteady a b p → member_number m ≤ length p.managers → member_number m ≤ length p.logs → take_answer m t p ≡ taken → ends.LatchStep m t taken p turn phase q → Moves p q
latch_moves a b m t Nothing p turn phase q s there has is step = same_moves p q step.2
latch_moves a b m t (Busy busy) p turn phase q s there has is step = same_moves p q step.2
latch_moves a b m t (Begun u count) p turn phase q s there has is step =
    let free = take_free _ _ u count is in
    let holds = pending_unit (task_at m t p.managers) u count free.0 in
    let pages = run_of u (task_at m t p.managers) in
    let repo = ap (λ (x : Owned). x.repo) step.2.parts in
    let logs = ap (λ (x : Owned). x.logs) step.2.parts in
    one_moves m _ p q repo logs (ap length (ap (λ (x : Owned). x.structures) step.2.parts))
    (begins (s.live m t u holds).up
    (subst (IsTakenInHand (log_in m p.logs)) (sym (ap (log_in m) logs ∙ log_same m _ p.logs has))
    (record { idle = latch_idle a b p m s (record { manager = there; log = has }) free.1; hand = _; writer = refl; bytes = refl; tells = refl })))

page_moves : (u : UnitName) (t : TaskNo) (done : Bool) (p q : Owned) → IsPageStep u t done p q → Moves p q
page_moves u t true p q step =
    one_moves u.member (log_in u.member q.logs) p q (ap (λ (x : Owned). x.repo) step.made.parts) (ap (λ (x : Owned). x.logs) step.made.parts) (ap length (ap (λ (x : Owned). x.structures) step.made.parts)) (writes step.written)
page_moves u t false p q step =
    one_moves u.member (log_in u.member q.logs) p q (ap (λ (x : Owned). x.repo) step.made) (ap (λ (x : Owned). x.logs) step.made) (ap length (ap (λ (x : Owned). x.structures) step.made)) (writes step.written)

pub failed_moves : (m : Member) (p q : Owned) → IsFailedPage m p q → Moves p q
failed_moves m p q failed =
    one_moves m (log_in m q.logs) p q (ap (λ (x : Owned). x.repo) failed.parts) (ap (λ (x : Owned). x.logs) failed.parts) (ap length (ap (λ (x : Owned). x.structures) failed.parts)) (fails failed)

end_at : (a b : ℕ) (m : Member) (t : TaskNo) (phase : EndPhase) (p : Owned) (result : Result Turn StepError) (after : EndPhase) (q : Owned) → IsSteady a b p → member_number m ≤ length p.managers → member_number m ≤ length p.logs → IsOwnEnd m phase → ends.NextAt m t phase p result after q → Moves p q
end_at a b m t ending.Latch p (Ok turn) after q s there has own next = latch_moves a b m t (take_answer m t p) p turn after q s there has refl next
end_at a b m t ending.Latch p (Err NoMemory) after q s there has own next =
    unmoved p q (ap (λ (x : Owned). x.repo) next.1.same) (ap (λ (x : Owned). x.logs) next.1.same) (ap length (ap (λ (x : Owned). x.structures) next.1.same))
end_at a b m t ending.Latch p (Err LogFailed) after q s there has own next = absurd next
end_at a b m t (ending.Pages u count) p (Ok turn) after q s there has own (done, is, at, step) = page_moves u t done p q step
end_at a b m t (ending.Pages u count) p (Err NoMemory) after q s there has own next = absurd next
end_at a b m t (ending.Pages u count) p (Err LogFailed) after q s there has own next = failed_moves u.member p q next.1
end_at a b m t (ending.Settle u count) p (Ok turn) after q s there has own next = subst (Moves p) (sym (ap (λ (n : ends.Next). n.parts) next)) (mark_moves u t (next_claim (task_at u.member t p.managers)) p)
end_at a b m t (ending.Settle u count) p (Err e) after q s there has own next = absurd next
end_at a b m t (ending.Publish u count) p (Ok turn) after q s there has own next =
    subst (Moves p) (sym (ap (λ (n : ends.Next). n.parts) next)) (publish_moves u t p (subst (λ k. member_number k ≤ length p.logs) (sym own) has))
end_at a b m t (ending.Publish u count) p (Err e) after q s there has own next = absurd next
end_at a b m t ending.GiveUp p (Ok turn) after q s there has own next = subst (Moves p) (sym (ap (λ (n : ends.Next). n.parts) next)) (give_up_moves a b m t (pending (task_at m t p.managers)) p s has refl)
end_at a b m t ending.GiveUp p (Err e) after q s there has own next = absurd next
end_at a b m t (ending.Undo u count) p (Ok turn) after q s there has own next =
    subst (Moves p) (sym (ap (λ (n : ends.Next). n.parts) next)) (undone_moves u t p p (subst (λ k. member_number k ≤ length p.logs) (sym own) has) refl refl refl)
end_at a b m t (ending.Undo u count) p (Err e) after q s there has own next = absurd next

-- ---- whatever the kind

pub request_moves : (a b : ℕ) (before work : Work) (p q : Owned) (result : Result Turn StepError) → IsSteadyBeside a b before p → IsRequestOf before p → NextWork before p result work q → Moves p q
request_moves a b (Put old) (Put new) p q result s fits next = put_step old new p q result fits.member.log next
request_moves a b (Put old) (Get new) p q result s fits next = absurd next
request_moves a b (Put old) (Commit new) p q result s fits next = absurd next
request_moves a b (Get old) (Put new) p q result s fits next = absurd next
request_moves a b (Get old) (Get new) p q result s fits next = get_step old new p q result fits.member.log next
request_moves a b (Get old) (Commit new) p q result s fits next = absurd next
request_moves a b (Commit old) (Put new) p q result s fits next = absurd next
request_moves a b (Commit old) (Get new) p q result s fits next = absurd next
request_moves a b (Commit old) (Commit new) p q result s fits next =
    let is = steady_of (has_end_begun old.phase) a b p s in
    end_at a is.busy old.member old.task old.phase p result new.phase q is.steady fits.member.manager fits.member.log fits.own next.next
