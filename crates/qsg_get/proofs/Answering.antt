-- what a refusal leaves, and when there is no message
use Rattle.std.proofs.Common.{◌≡◌, ℕ, false, List, Option, Some, None, Result, Ok, Err, refl, sym, subst}
use Rattle.std.specs.List.{AllByRecursion}
use Rattle.qsg_num.specs.declared.seats.Member.{Member}
use Rattle.qsg_num.specs.declared.seats.TaskNo.{TaskNo}
use Rattle.qsg_num.specs.declared.ids.UnitName.{UnitName}
use Rattle.qsg_lists.specs.declared.parts.Entry.{Entry}
use Rattle.qsg_lists.specs.declared.parts.Lost.{Lost}
use Rattle.qsg_lists.specs.declared.parts.Seen.{Seen}
use Rattle.qsg_lists.specs.declared.parts.Place.{Place}
use Rattle.qsg_lists.specs.declared.parts.Place.TheVariants.{Inline, Offloaded}
use Rattle.qsg_lists.specs.declared.parts.Selector.{Selector}
use Rattle.qsg_lists.specs.Entries.{waits_for}
use Rattle.qsg_lists.specs.Structures.{lost_of, connect_answer}
use Rattle.qsg_lists.proofs.First.{first-none}
use Rattle.qsg_logpage.specs.declared.writer.NoLog.{NoLog as NoPages}
use Rattle.qsg_repo.specs.Keeping.{keep}
use Rattle.qsg_requests.specs.declared.replies.Reason.{Reason}
use Rattle.qsg_requests.specs.declared.replies.Reason.TheVariants.{NoMessage, NotYet}
use Rattle.qsg_requests.specs.declared.replies.Reply.TheVariants.{Refused}
use Rattle.qsg_requests.specs.declared.replies.Turn.TheVariants.{Ended}
use Rattle.qsg_manager.specs.declared.taken.Taken.{Taken}
use Rattle.qsg_manager.specs.Facilities.{structure_in}
use Rattle.qsg_manager.specs.Getting.{found_in, taken_of, body_taken}
use Rattle.qsg_logs.specs.Kept.{log_in}
use Rattle.qsg_logs.specs.Writers.{reserve_answer}
use Rattle.qsg_parts.specs.Owned.{Owned}
use Rattle.qsg_get.specs.declared.checking.Terms.{Terms}
use Rattle.qsg_get.specs.declared.phases.Phase.{Phase}
use Rattle.qsg_get.specs.declared.phases.Phase.TheVariants.{Check, Connect, Take}
use Rattle.qsg_get.specs.Checking.{check_answer}
use Rattle.qsg_get.specs.Works.{Work}
use Rattle.qsg_get.specs.Steps.{unit_of, need, told_of, after_reserve, after_check, after_connect, after_take, use_of, next_get, next_at}
use Rattle.qsg_get.specs.Answers.{LeavesUnit}

-- an entry that was taken is refused for one reason only
told_refused : (terms : Terms) (taken : Taken) (place : Place) (reason : Reason) → Ended (told_of terms.structure taken (body_taken place)) ≡ Ended (Refused reason) → reason ≡ NotYet
told_refused terms taken (Inline body) reason is = absurd cc
told_refused terms taken (Offloaded owner blocks length) reason is = cc

reserve_leaves : (m : Member) (t : TaskNo) (terms : Terms) (p : Owned) (answer : Result (Unit {0}) NoPages) (reason : Reason) → (after_reserve m t terms p answer).turn ≡ Ended (Refused reason) → LeavesUnit p (after_reserve m t terms p answer).parts
reserve_leaves m t terms p (Err why) reason is = record { structures = refl; managers = refl }
reserve_leaves m t terms p (Ok done) reason is = absurd cc

check_leaves : (m : Member) (t : TaskNo) (p : Owned) (answer : Result Terms Reason) (reason : Reason) → (after_check m t p answer).turn ≡ Ended (Refused reason) → LeavesUnit p (after_check m t p answer).parts
check_leaves m t p (Err why) reason is = record { structures = refl; managers = refl }
check_leaves m t p (Ok terms) reason is = reserve_leaves m t terms p (reserve_answer (unit_of m t p.managers) (need m t p) (keep m p.repo) (log_in m p.logs).writer) reason is

connect_leaves : (m : Member) (t : TaskNo) (u : UnitName) (terms : Terms) (p : Owned) (answer : Result Seen Lost) (reason : Reason) → (after_connect m t u terms p answer).turn ≡ Ended (Refused reason) → LeavesUnit p (after_connect m t u terms p answer).parts
connect_leaves m t u terms p (Err lost) reason is = record { structures = refl; managers = refl }
connect_leaves m t u terms p (Ok told) reason is = absurd cc

take_leaves : (m : Member) (t : TaskNo) (u : UnitName) (terms : Terms) (epoch : ℕ) (p : Owned) (lost : Option Lost) (found : Option Entry) (reason : Reason) → (reason ≡ NotYet → ⊥)
    → (after_take m t u terms epoch p lost found).turn ≡ Ended (Refused reason) → LeavesUnit p (after_take m t u terms epoch p lost found).parts
take_leaves m t u terms epoch p (Some l) found reason built is = record { structures = refl; managers = refl }
take_leaves m t u terms epoch p None None reason built is = record { structures = refl; managers = refl }
take_leaves m t u terms epoch p None (Some e) reason built is = absurd (built (told_refused terms (taken_of e) e.place reason is))

at_leaves : (m : Member) (t : TaskNo) (queue : List ℕ) (select : Selector) (p : Owned) (phase : Phase) (reason : Reason) → (reason ≡ NotYet → ⊥)
    → (next_at m t queue select p phase).turn ≡ Ended (Refused reason) → LeavesUnit p (next_at m t queue select p phase).parts
at_leaves m t queue select p Check reason built is = check_leaves m t p (check_answer p.objects queue _) reason is
at_leaves m t queue select p (Connect u terms) reason built is = connect_leaves m t u terms p (connect_answer (structure_in terms.structure p.structures)) reason is
at_leaves m t queue select p (Take u terms epoch) reason built is = take_leaves m t u terms epoch p _ _ reason built is

pub refusal_leaves : (work : Work) (p : Owned) (reason : Reason) → (reason ≡ NotYet → ⊥) → (next_get work p).turn ≡ Ended (Refused reason) → LeavesUnit p (next_get work p).parts
refusal_leaves work p reason built is = at_leaves work.member work.task work.queue work.select p work.phase reason built is

-- ---- no message

not_built : NotYet ≡ NoMessage → ⊥
not_built is = cc

take_none : (m : Member) (t : TaskNo) (queue : List ℕ) (select : Selector) (u : UnitName) (terms : Terms) (epoch : ℕ) (p : Owned) (lost : Option Lost) (found : Option Entry) → found_in (use_of terms epoch) queue terms.order select p.structures ≡ found
    → (after_take m t u terms epoch p lost found).turn ≡ Ended (Refused NoMessage)
    → AllByRecursion (λ (x : Entry). waits_for queue select x ≡ false) (structure_in terms.structure p.structures).entries
take_none m t queue select u terms epoch p (Some l) found there is = absurd cc
take_none m t queue select u terms epoch p None None there is = first-none queue terms.order select (structure_in terms.structure p.structures).entries there
take_none m t queue select u terms epoch p None (Some e) there is = absurd (not_built (sym (told_refused terms (taken_of e) e.place NoMessage is)))

pub none_waits : (work : Work) (p : Owned) (u : UnitName) (terms : Terms) (epoch : ℕ) → work.phase ≡ Take u terms epoch → (next_get work p).turn ≡ Ended (Refused NoMessage)
    → AllByRecursion (λ (x : Entry). waits_for work.queue work.select x ≡ false) (structure_in terms.structure p.structures).entries
none_waits work p u terms epoch at is =
    take_none work.member work.task work.queue work.select u terms epoch p (lost_of (structure_in terms.structure p.structures) (use_of terms epoch)) (found_in (use_of terms epoch) work.queue terms.order work.select p.structures) refl
    (subst (λ phase. (next_at work.member work.task work.queue work.select p phase).turn ≡ Ended (Refused NoMessage)) at is)
