-- no step of a request changes the definitions, how many members there are, and which of them are up
use Rattle.std.proofs.Common.{◌≡◌, ℕ, ◌+◌, ◌-◌, ◌≤◌, List, [], length, Bool, true, false, Option, Some, None, Result, Ok, Err, refl, sym, ap, subst, ◌∙◌, cond, length-set}
use Rattle.qsg_num.specs.declared.seats.Member.{Member}
use Rattle.qsg_num.specs.declared.seats.TaskNo.{TaskNo}
use Rattle.qsg_num.specs.declared.ids.UnitName.{UnitName}
use Rattle.qsg_num.specs.Seats.{member_number}
use Rattle.qsg_lists.specs.declared.parts.Entry.{Entry}
use Rattle.qsg_lists.specs.declared.parts.Lost.{Lost}
use Rattle.qsg_lists.specs.declared.parts.Seen.{Seen}
use Rattle.qsg_lists.specs.declared.parts.WriteWhy.{WriteWhy}
use Rattle.qsg_logpage.specs.declared.writer.NoLog.{NoLog}
use Rattle.qsg_requests.specs.declared.replies.Reason.{Reason}
use Rattle.qsg_requests.specs.declared.words.PutWords.{PutWords}
use Rattle.qsg_group.specs.declared.tasks.Claim.{Claim}
use Rattle.qsg_group.specs.declared.tasks.Task.{Task}
use Rattle.qsg_group.specs.Group.{idle}
use Rattle.qsg_group.specs.Changes.{open_task}
use Rattle.qsg_manager.specs.declared.managers.Manager.{Manager}
use Rattle.qsg_manager.specs.Settles.{next_claim}
use Rattle.qsg_manager.specs.Storage.{manager_in, task_at, with_manager, with_task, with_drawn, next_name}
use Rattle.qsg_manager.specs.Units.{with_name}
use Rattle.qsg_manager.proofs.Grouping.{manager_same, manager_other}
use Rattle.qsg_parts.specs.Owned.{Owned}
use Rattle.qsg_steady.proofs.Acting.{tasked}
use Rattle.qsg_steady.proofs.Moving.{by_member}
use Rattle.qsg_put.specs.declared.checking.Terms.{Terms as PutTerms}
use Rattle.qsg_put.specs.declared.phases.Phase.{Phase as PutPhase}
use Rattle.qsg_put.specs.declared.phases.Phase.TheVariants as putting
use Rattle.qsg_put.specs.Steps as puts
use Rattle.qsg_get.specs.declared.checking.Terms.{Terms as GetTerms}
use Rattle.qsg_get.specs.declared.phases.Phase.{Phase as GetPhase}
use Rattle.qsg_get.specs.declared.phases.Phase.TheVariants as getting
use Rattle.qsg_get.specs.Steps as gets
use Rattle.qsg_get.specs.Works.{IsOwn}
use Rattle.qsg_lists.specs.declared.parts.Selector.{Selector}
use Rattle.qsg_logs.specs.Kept.{log_in}
use Rattle.qsg_commit.specs.Committing.{with_room, latched, IsLatched, hardened, at_log, IsPageMade, IsFailedPage}
use Rattle.qsg_commit.specs.Ending.{settled_by, settled, is_settled, ended, published, given_up, undone}
use Rattle.qsg_commit.specs.Next.{after_give_up}

-- ---- members

record AreStill (ms now : List Manager) : Type 0 where
  pub members : length now ≡ length ms
  pub ups : (k : Member) → (manager_in k now).up ≡ (manager_in k ms).up

as_up_still : (m : Member) (x : Manager) (ms : List Manager) → member_number m ≤ length ms → x.up ≡ (manager_in m ms).up → AreStill ms (with_manager m x ms)
as_up_still m x ms within same = record {
  members = length-set ms (member_number m - 1) x;
  ups = by_member (λ k. (manager_in k (with_manager m x ms)).up ≡ (manager_in k ms).up) m
      (ap (λ (z : Manager). z.up) (manager_same m x ms within) ∙ same)
      (λ k differ. ap (λ (z : Manager). z.up) (manager_other m k x ms differ));
}

task_still : (m : Member) (t : TaskNo) (y : Task) (ms : List Manager) → member_number m ≤ length ms → AreStill ms (with_task m t y ms)
task_still m t y ms within = as_up_still m (tasked t y (manager_in m ms)) ms within refl

name_still : (m : Member) (t : TaskNo) (ms : List Manager) → member_number m ≤ length ms → AreStill ms (with_name m t ms)
name_still m t ms within =
    let drawn = as_up_still m (record (manager_in m ms) { next = (manager_in m ms).next + 1 }) ms within refl in
    let named = task_still m t (open_task (next_name m ms) [] []) (with_drawn m ms) (subst (λ (n : ℕ). member_number m ≤ n) (sym drawn.members) within) in
    record { members = named.members ∙ drawn.members; ups = λ k. named.ups k ∙ drawn.ups k }

-- ---- parts

pub record IsStill (p q : Owned) : Type 0 where
  pub objects : q.objects ≡ p.objects
  pub members : length q.managers ≡ length p.managers
  pub ups : (k : Member) → (manager_in k q.managers).up ≡ (manager_in k p.managers).up

pub still : (p : Owned) → IsStill p p
still p = record { objects = refl; members = refl; ups = λ k. refl }

still_by : (p q : Owned) → q.objects ≡ p.objects → AreStill p.managers q.managers → IsStill p q
still_by p q objects are = record { objects = objects; members = are.members; ups = are.ups }

still_both : (p q r : Owned) → IsStill p q → IsStill q r → IsStill p r
still_both p q r first then = record { objects = then.objects ∙ first.objects; members = then.members ∙ first.members; ups = λ k. then.ups k ∙ first.ups k }

still_if : (b : Bool) (p q r : Owned) → IsStill p q → IsStill p r → IsStill p (cond b q r)
still_if true p q r one other = one
still_if false p q r one other = other

pub still_within : (m : Member) (p q : Owned) → IsStill p q → member_number m ≤ length p.managers → member_number m ≤ length q.managers
still_within m p q is within = subst (λ (n : ℕ). member_number m ≤ n) (sym is.members) within

-- ---- a put

put_reserved : (m : Member) (t : TaskNo) (words : PutWords) (terms : PutTerms) (p : Owned) (r : Result (Unit {0}) NoLog) → member_number m ≤ length p.managers → IsStill p (puts.after_reserve m t words terms p r).parts
put_reserved m t words terms p (Err why) within = still p
put_reserved m t words terms p (Ok done) within = still_by p (puts.with_pages m t (puts.unit_of m t p.managers) (puts.need m t words terms p) p) refl (by (task_at m t p.managers).unit)
  where
    by : (held : Option UnitName) → AreStill p.managers (puts.named held m t p.managers)
    by None = name_still m t p.managers within
    by (Some u) = record { members = refl; ups = λ k. refl }

put_checked : (m : Member) (t : TaskNo) (words : PutWords) (p : Owned) (r : Result PutTerms Reason) → member_number m ≤ length p.managers → IsStill p (puts.after_check m t words p r).parts
put_checked m t words p (Err reason) within = still p
put_checked m t words p (Ok terms) within = put_reserved m t words terms p _ within

put_connected : (m : Member) (t : TaskNo) (u : UnitName) (terms : PutTerms) (p : Owned) (r : Result Seen Lost) → IsStill p (puts.after_connect m t u terms p r).parts
put_connected m t u terms p (Ok seen) = still p
put_connected m t u terms p (Err lost) = record { objects = refl; members = refl; ups = λ k. refl }

put_refused : (m : Member) (t : TaskNo) (u : UnitName) (terms : PutTerms) (epoch : ℕ) (p : Owned) (r : Option Reason) → IsStill p (puts.after_refusal m t u terms epoch p r).parts
put_refused m t u terms epoch p None = still p
put_refused m t u terms epoch p (Some reason) = record { objects = refl; members = refl; ups = λ k. refl }

put_written : (m : Member) (t : TaskNo) (words : PutWords) (u : UnitName) (terms : PutTerms) (epoch : ℕ) (p : Owned) (r : Option WriteWhy) → member_number m ≤ length p.managers → IsStill p (puts.after_write m t words u terms epoch p r).parts
put_written m t words u terms epoch p None within = still_by p (puts.with_message m t words u terms epoch p) refl (task_still m t _ p.managers within)
put_written m t words u terms epoch p (Some why) within = put_refused m t u terms epoch p _

pub put_still : (m : Member) (t : TaskNo) (words : PutWords) (p : Owned) (phase : PutPhase) → member_number m ≤ length p.managers → IsStill p (puts.next_at m t words p phase).parts
put_still m t words p putting.Check within = put_checked m t words p _ within
put_still m t words p (putting.Connect u terms) within = put_connected m t u terms p _
put_still m t words p (putting.Write u terms epoch) within = put_written m t words u terms epoch p _ within

-- ---- a get

get_reserved : (m : Member) (t : TaskNo) (terms : GetTerms) (p : Owned) (r : Result (Unit {0}) NoLog) → member_number m ≤ length p.managers → IsStill p (gets.after_reserve m t terms p r).parts
get_reserved m t terms p (Err why) within = still p
get_reserved m t terms p (Ok done) within = still_by p (gets.with_pages m t (gets.unit_of m t p.managers) (gets.need m t p) p) refl (by (task_at m t p.managers).unit)
  where
    by : (held : Option UnitName) → AreStill p.managers (gets.named held m t p.managers)
    by None = name_still m t p.managers within
    by (Some u) = record { members = refl; ups = λ k. refl }

get_checked : (m : Member) (t : TaskNo) (p : Owned) (r : Result GetTerms Reason) → member_number m ≤ length p.managers → IsStill p (gets.after_check m t p r).parts
get_checked m t p (Err reason) within = still p
get_checked m t p (Ok terms) within = get_reserved m t terms p _ within

get_connected : (m : Member) (t : TaskNo) (u : UnitName) (terms : GetTerms) (p : Owned) (r : Result Seen Lost) → IsStill p (gets.after_connect m t u terms p r).parts
get_connected m t u terms p (Ok seen) = still p
get_connected m t u terms p (Err lost) = record { objects = refl; members = refl; ups = λ k. refl }

get_taken : (m : Member) (t : TaskNo) (u : UnitName) (terms : GetTerms) (epoch : ℕ) (p : Owned) (lost : Option Lost) (found : Option Entry) → u.member ≡ m → member_number m ≤ length p.managers → IsStill p (gets.after_take m t u terms epoch p lost found).parts
get_taken m t u terms epoch p (Some lost) found own within = record { objects = refl; members = refl; ups = λ k. refl }
get_taken m t u terms epoch p None None own within = record { objects = refl; members = refl; ups = λ k. refl }
get_taken m t u terms epoch p None (Some e) own within = still_by p (gets.with_message m t u (gets.use_of terms epoch) e p) refl (task_still u.member t _ p.managers (subst (λ (k : Member). member_number k ≤ length p.managers) (sym own) within))

pub get_still : (m : Member) (t : TaskNo) (queue : List ℕ) (select : Selector) (p : Owned) (phase : GetPhase) → IsOwn m phase → member_number m ≤ length p.managers → IsStill p (gets.next_at m t queue select p phase).parts
get_still m t queue select p getting.Check own within = get_checked m t p _ within
get_still m t queue select p (getting.Connect u terms) own within = get_connected m t u terms p _
get_still m t queue select p (getting.Take u terms epoch) own within = get_taken m t u terms epoch p _ _ own within

-- ---- a COMMIT or BACKOUT

settled_still_by : (u : UnitName) (t : TaskNo) (p : Owned) (next : Option Claim) → member_number u.member ≤ length p.managers → IsStill p (settled_by u t next p)
settled_still_by u t p None within = still p
settled_still_by u t p (Some c) within = still_by p (settled_by u t (Some c) p) refl (task_still u.member t _ p.managers within)

pub settled_still : (u : UnitName) (t : TaskNo) (p : Owned) → member_number u.member ≤ length p.managers → IsStill p (settled u t p)
settled_still u t p within = settled_still_by u t p (next_claim (task_at u.member t p.managers)) within

ended_still : (u : UnitName) (t : TaskNo) (p : Owned) → member_number u.member ≤ length p.managers → IsStill p (ended u t p)
ended_still u t p within = still_by p (ended u t p) refl (task_still u.member t idle p.managers within)

pub published_still : (u : UnitName) (t : TaskNo) (p : Owned) → member_number u.member ≤ length p.managers → IsStill p (published u t p)
published_still u t p within = still_by p (published u t p) refl (task_still u.member t idle p.managers within)

pub undone_still : (u : UnitName) (t : TaskNo) (p : Owned) → member_number u.member ≤ length p.managers → IsStill p (undone u t p)
undone_still u t p within =
    let first = settled_still u t p within in
    still_if (is_settled u t (settled u t p)) p (ended u t (settled u t p)) (settled u t p)
    (still_both p (settled u t p) (ended u t (settled u t p)) first (ended_still u t (settled u t p) (still_within u.member p (settled u t p) first within)))
    first

given_up_still : (u : UnitName) (t : TaskNo) (p : Owned) → member_number u.member ≤ length p.managers → IsStill p (given_up u t p)
given_up_still u t p within = still_by p (given_up u t p) refl (task_still u.member t _ p.managers within)

pub give_up_still : (t : TaskNo) (found : Option (UnitName × ℕ)) (p : Owned) → ((u : UnitName) (n : ℕ) → found ≡ Some (u, n) → member_number u.member ≤ length p.managers) → IsStill p (after_give_up t found p).parts
give_up_still t None p within = still p
give_up_still t (Some (u, n)) p within =
    let first = given_up_still u t p (within u n refl) in
    still_both p (given_up u t p) (undone u t (given_up u t p)) first (undone_still u t (given_up u t p) (still_within u.member p (given_up u t p) first (within u n refl)))

pub latched_still : (m : Member) (t : TaskNo) (u : UnitName) (p q : Owned) → member_number m ≤ length p.managers → IsLatched m t u p q → IsStill p q
latched_still m t u p q within latch = subst (IsStill p) (sym latch.parts) (still_by p (with_room q.history.room (latched m t u p)) refl (task_still m t _ p.managers within))

pub page_still : (u : UnitName) (t : TaskNo) (done : Bool) (p q : Owned) → member_number u.member ≤ length p.managers → IsPageMade u t done p q → IsStill p q
page_still u t false p q within made = subst (IsStill p) (sym made) (record { objects = refl; members = refl; ups = λ k. refl })
page_still u t true p q within made = subst (IsStill p) (sym made.parts) (still_by p (with_room q.history.room (hardened t u (at_log u.member (log_in u.member q.logs) p))) refl (task_still u.member t _ p.managers within))

pub failed_still : (m : Member) (p q : Owned) → IsFailedPage m p q → IsStill p q
failed_still m p q failed = subst (IsStill p) (sym failed.parts) (record { objects = refl; members = refl; ups = λ k. refl })
