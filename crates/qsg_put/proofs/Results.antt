-- what a put makes, and what it leaves
use Rattle.std.proofs.Common.{◌≡◌, ℕ, zero, suc, ◌-◌, ◌≤◌, Bool, true, false, List, [], ◌∷◌, length, Option, Some, None, Result, Ok, Err, refl, sym, ap, subst, ◌∙◌, inl, inr, arith}
use Rattle.std.specs.Prelude.{slice_set}
use Rattle.std.proofs.lemmas.List.{get_or-set_same, get_or-set_other}
use Rattle.std.proofs.lemmas.Bool.{cases_lt}
use Rattle.qsg_num.specs.declared.seats.Member.{Member}
use Rattle.qsg_num.specs.declared.seats.Member.TheVariants as members
use Rattle.qsg_num.specs.declared.seats.TaskNo.{TaskNo}
use Rattle.qsg_num.specs.declared.ids.EntryId.{EntryId}
use Rattle.qsg_num.specs.declared.ids.UnitName.{UnitName}
use Rattle.qsg_num.specs.Seats.{member_number, structure_number}
use Rattle.qsg_lists.specs.declared.parts.Lost.{Lost}
use Rattle.qsg_lists.specs.declared.parts.Place.TheVariants.{Inline}
use Rattle.qsg_lists.specs.declared.parts.Seen.{Seen}
use Rattle.qsg_lists.specs.declared.parts.WriteWhy.{WriteWhy}
use Rattle.qsg_lists.specs.declared.parts.WriteWhy.TheVariants as why
use Rattle.qsg_lists.specs.Structures.{ListStructure, connect_answer}
use Rattle.qsg_lists.specs.Writing.{written, next_id}
use Rattle.qsg_logpage.specs.declared.writer.NoLog.{NoLog as NoPages}
use Rattle.qsg_logs.specs.Kept.{KeptLog, no_log, log_in, with_log, with_reserved, with_record_of, fallen_back}
use Rattle.qsg_logs.specs.Writers.{reserve_answer}
use Rattle.qsg_repo.specs.Keeping.{keep}
use Rattle.qsg_objects.specs.declared.registry.Queue.{Queue}
use Rattle.qsg_objects.specs.Registry.{Registry, queue_named, structure_numbered}
use Rattle.qsg_offload.specs.declared.rule.Placed.TheVariants.{Inside}
use Rattle.qsg_requests.specs.declared.words.PutWords.{PutWords}
use Rattle.qsg_requests.specs.declared.replies.Reason.{Reason}
use Rattle.qsg_requests.specs.declared.replies.Reply.TheVariants.{PutOk}
use Rattle.qsg_requests.specs.declared.replies.Turn.TheVariants.{Ended}
use Rattle.qsg_group.specs.declared.tasks.Task.{Task}
use Rattle.qsg_group.proofs.Tables.{cases_member, task-same}
use Rattle.qsg_manager.specs.declared.managers.Manager.{Manager}
use Rattle.qsg_manager.specs.Actions.{IsMember}
use Rattle.qsg_manager.specs.Facilities.{structure_in}
use Rattle.qsg_manager.specs.Putting.{with_put}
use Rattle.qsg_manager.specs.Storage.{task_at, with_task}
use Rattle.qsg_manager.proofs.Grouping.{structure_same, tasks_with}
use Rattle.qsg_parts.specs.Owned.{Owned}
use Rattle.qsg_put.specs.declared.checking.Terms.{Terms}
use Rattle.qsg_put.specs.declared.phases.Phase.{Phase}
use Rattle.qsg_put.specs.declared.phases.Phase.TheVariants.{Check, Connect, Write}
use Rattle.qsg_put.specs.Checking.{terms_of, recovers, put_refusal, unless_refused, answer_at, check_answer}
use Rattle.qsg_put.specs.Messages.{no_id, message_of, head_of, logged}
use Rattle.qsg_put.specs.Works.{Work}
use Rattle.qsg_put.specs.Steps.{fallen, unit_of, need, has_operations, reason_of, after_reserve, after_check, after_connect, after_refusal, after_write, refusal_of, use_of, with_message, next_at, next_put}
use Rattle.qsg_put.specs.Outcomes.{AreTermsOf, IsPut, IsSameLog}

-- ---- the terms

passed : (refusal : Option Reason) (made terms : Terms) → unless_refused refusal made ≡ Ok terms → (refusal ≡ None) × (terms ≡ made)
passed None made terms is = (refl, cc)
passed (Some reason) made terms is = absurd cc

terms_at : (objects : Registry) (words : PutWords) (operations : ℕ) (terms : Terms) (queue : Option Queue) → queue_named words.queue objects ≡ queue → answer_at objects words operations queue ≡ Ok terms → AreTermsOf words operations terms objects
terms_at objects words operations terms None named is = absurd cc
terms_at objects words operations terms (Some queue) named is =
    let both = passed (put_refusal words operations queue (recovers (structure_numbered queue.structure objects))) (terms_of words queue) terms is in
    record { queue = queue; named = named; passed = both.0; terms_are = both.1 }

pub terms_are : (objects : Registry) (words : PutWords) (operations : ℕ) (terms : Terms) → check_answer objects words operations ≡ Ok terms → AreTermsOf words operations terms objects
terms_are objects words operations terms is = terms_at objects words operations terms (queue_named words.queue objects) refl is

-- ---- the message

task_stored : (m : Member) (t : TaskNo) (y : Task) (ms : List Manager) → IsMember m ms → task_at m t (with_task m t y ms) ≡ y
task_stored m t y ms member = tasks_with m t y ms member.within member.five m t ∙ task-same m t (λ old. y) (λ a b. task_at a b ms)

put_at : (work : Work) (p : Owned) (u : UnitName) (terms : Terms) (epoch : ℕ) (id : EntryId) (refusal : Option WriteWhy) → IsMember work.member p.managers → structure_number terms.structure ≤ length p.structures
    → (after_write work.member work.task work.words u terms epoch p refusal).turn ≡ Ended (PutOk id Inside) → IsPut work u terms epoch id p (after_write work.member work.task work.words u terms epoch p refusal).parts
put_at work p u terms epoch id (Some why.NoMemory) member within is = absurd cc
put_at work p u terms epoch id (Some (why.Lost lost)) member within is = absurd cc
put_at work p u terms epoch id (Some (why.Full need free)) member within is = absurd cc
put_at work p u terms epoch id (Some (why.QueueFull depth)) member within is = absurd cc
put_at work p u terms epoch id None member within is =
    let s = structure_in terms.structure p.structures in
    let next : next_id s ≡ id = cc in
    let task = with_put (use_of terms epoch) (message_of work.words terms no_id) (next_id s) (task_at work.member work.task p.managers) in
    let stored = task_stored work.member work.task task p.managers member in
    let entries = ap (λ (x : ListStructure). x.entries) (structure_same terms.structure (written s u (head_of work.words terms) (Inline work.words.body)) p.structures within) in
    subst (λ (n : EntryId). IsPut work u terms epoch n p (with_message work.member work.task work.words u terms epoch p)) next (record {
      next = refl;
      entry = entries;
      operation = ap (λ (x : Task). x.ops) stored;
      claim = ap (λ (x : Task). x.claims) stored;
    })

put_by : (work : Work) (p : Owned) (u : UnitName) (terms : Terms) (epoch : ℕ) (id : EntryId) (phase : Phase) → IsMember work.member p.managers → structure_number terms.structure ≤ length p.structures
    → phase ≡ Write u terms epoch → (next_at work.member work.task work.words p phase).turn ≡ Ended (PutOk id Inside) → IsPut work u terms epoch id p (next_at work.member work.task work.words p phase).parts
put_by work p u terms epoch id phase member within is answered =
    subst (λ (x : Phase). (next_at work.member work.task work.words p x).turn ≡ Ended (PutOk id Inside) → IsPut work u terms epoch id p (next_at work.member work.task work.words p x).parts) (sym is)
    (put_at work p u terms epoch id (refusal_of work.words terms epoch p) member within) answered

pub message_is : (work : Work) (p : Owned) (u : UnitName) (terms : Terms) (epoch : ℕ) (id : EntryId) → IsMember work.member p.managers → structure_number terms.structure ≤ length p.structures
    → work.phase ≡ Write u terms epoch → (next_put work p).turn ≡ Ended (PutOk id Inside) → IsPut work u terms epoch id p (next_put work p).parts
message_is work p u terms epoch id member within is answered = put_by work p u terms epoch id work.phase member within is answered

-- ---- what stays

pub member_some : (m : Member) → 1 ≤ member_number m
member_some members.One = omega arith
member_some members.Two = omega arith
member_some members.Three = omega arith
member_some members.Four = omega arith
member_some members.Five = omega arith
member_some members.Six = omega arith
member_some members.Seven = omega arith
member_some members.Eight = omega arith

unchanged : (log : KeptLog) → IsSameLog log log
unchanged log = record { tells = refl; bytes = refl; faults = refl; extent = refl; size = refl; next = refl; hand = refl }

-- where a member isn't one of the group, there is no log to change
set_beyond : (logs : List KeptLog) (i : ℕ) (log : KeptLog) → length logs ≤ i → slice_set logs i log ≡ logs
set_beyond [] i log beyond = refl
set_beyond (x ∷ logs) zero log beyond = absurd (omega (arith, beyond))
set_beyond (x ∷ logs) (suc i) log beyond = ap (λ l. x ∷ l) (set_beyond logs i log (omega (arith, beyond)))

at_a_log : (m : Member) (f : KeptLog → KeptLog) (logs : List KeptLog) → IsSameLog (log_in m logs) (f (log_in m logs)) → (k : Member) → IsSameLog (log_in k logs) (log_in k (with_log m (f (log_in m logs)) logs))
at_a_log m f logs same k =
    let one = member_some m in
    let two = member_some k in
    elim (cases_member k m) [
      | inl is ↦ subst (λ (x : Member). IsSameLog (log_in x logs) (log_in x (with_log m (f (log_in m logs)) logs))) (sym is) (elim (cases_lt (member_number m - 1) (length logs)) [
        | inl within ↦ subst (λ (l : KeptLog). IsSameLog (log_in m logs) l) (sym (get_or-set_same logs (member_number m - 1) (f (log_in m logs)) no_log within)) same
        | inr beyond ↦ subst (λ (l : List KeptLog). IsSameLog (log_in m logs) (log_in m l)) (sym (set_beyond logs (member_number m - 1) (f (log_in m logs)) beyond)) (unchanged (log_in m logs))
      ])
      | inr differ ↦ subst (λ (l : KeptLog). IsSameLog (log_in k logs) l) (sym (get_or-set_other logs (member_number m - 1) (member_number k - 1) (f (log_in m logs)) no_log (λ e. differ (omega (arith, one, two, e))))) (unchanged (log_in k logs))
    ]

fallen_same : (t : TaskNo) (u : UnitName) (has : Bool) (log : KeptLog) → IsSameLog log (fallen_back t u has log)
fallen_same t u true log = record { tells = refl; bytes = refl; faults = refl; extent = refl; size = refl; next = refl; hand = refl }
fallen_same t u false log = record { tells = refl; bytes = refl; faults = refl; extent = refl; size = refl; next = refl; hand = refl }

-- the parts of a group that a put leaves
pub record Leaves (p q : Owned) : Type 0 where
  pub datasets : q.datasets ≡ p.datasets
  pub repo : q.repo ≡ p.repo
  pub objects : q.objects ≡ p.objects
  pub history : q.history ≡ p.history
  pub logs : (k : Member) → IsSameLog (log_in k p.logs) (log_in k q.logs)

all_left : (p : Owned) → Leaves p p
all_left p = record { datasets = refl; repo = refl; objects = refl; history = refl; logs = λ k. unchanged (log_in k p.logs) }

fall_left : (m : Member) (t : TaskNo) (u : UnitName) (p : Owned) → Leaves p (fallen m t u p)
fall_left m t u p = record { datasets = refl; repo = refl; objects = refl; history = refl; logs = at_a_log m (fallen_back t u (has_operations m t p.managers)) p.logs (fallen_same t u (has_operations m t p.managers) (log_in m p.logs)) }

reserve_left : (m : Member) (t : TaskNo) (words : PutWords) (terms : Terms) (p : Owned) (answer : Result (Unit {0}) NoPages) → Leaves p (after_reserve m t words terms p answer).parts
reserve_left m t words terms p (Err refused) = all_left p
reserve_left m t words terms p (Ok done) = record {
  datasets = refl;
  repo = refl;
  objects = refl;
  history = refl;
  logs = at_a_log m (with_reserved (unit_of m t p.managers) (need m t words terms p)) p.logs (record { tells = refl; bytes = refl; faults = refl; extent = refl; size = refl; next = refl; hand = refl });
}

check_left : (m : Member) (t : TaskNo) (words : PutWords) (p : Owned) (answer : Result Terms Reason) → Leaves p (after_check m t words p answer).parts
check_left m t words p (Err reason) = all_left p
check_left m t words p (Ok terms) = reserve_left m t words terms p (reserve_answer (unit_of m t p.managers) (need m t words terms p) (keep m p.repo) (log_in m p.logs).writer)

connect_left : (m : Member) (t : TaskNo) (u : UnitName) (terms : Terms) (p : Owned) (answer : Result Seen Lost) → Leaves p (after_connect m t u terms p answer).parts
connect_left m t u terms p (Err lost) = fall_left m t u p
connect_left m t u terms p (Ok seen) = all_left p

refusal_left : (m : Member) (t : TaskNo) (u : UnitName) (terms : Terms) (epoch : ℕ) (p : Owned) (reason : Option Reason) → Leaves p (after_refusal m t u terms epoch p reason).parts
refusal_left m t u terms epoch p (Some reason) = fall_left m t u p
refusal_left m t u terms epoch p None = all_left p

write_left : (m : Member) (t : TaskNo) (words : PutWords) (u : UnitName) (terms : Terms) (epoch : ℕ) (p : Owned) (refusal : Option WriteWhy) → Leaves p (after_write m t words u terms epoch p refusal).parts
write_left m t words u terms epoch p (Some why) = refusal_left m t u terms epoch p (reason_of why)
write_left m t words u terms epoch p None = record {
  datasets = refl;
  repo = refl;
  objects = refl;
  history = refl;
  logs = at_a_log m (with_record_of t (logged words terms)) p.logs (record { tells = refl; bytes = refl; faults = refl; extent = refl; size = refl; next = refl; hand = refl });
}

left_at : (m : Member) (t : TaskNo) (words : PutWords) (p : Owned) (phase : Phase) → Leaves p (next_at m t words p phase).parts
left_at m t words p Check = check_left m t words p (check_answer p.objects words (length (task_at m t p.managers).ops))
left_at m t words p (Connect u terms) = connect_left m t u terms p (connect_answer (structure_in terms.structure p.structures))
left_at m t words p (Write u terms epoch) = write_left m t words u terms epoch p (refusal_of words terms epoch p)

pub rest_left : (work : Work) (p : Owned) → Leaves p (next_put work p).parts
rest_left work p = left_at work.member work.task work.words p work.phase
