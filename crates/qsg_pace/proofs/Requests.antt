-- each step of a put or of a get leaves fewer of it, and the other tasks as they stood
use Rattle.std.proofs.Common.{◌≡◌, ℕ, ◌<◌, ◌≤◌, Bool, true, false, cond, List, [], length, Option, Some, None, refl, subst, arith}
use Rattle.std.specs.Prelude.{Result, Ok, Err, nat_lt, nat_le}
use Rattle.qsg_num.specs.declared.seats.Member.{Member}
use Rattle.qsg_num.specs.declared.seats.TaskNo.{TaskNo}
use Rattle.qsg_num.specs.declared.ids.UnitName.{UnitName}
use Rattle.qsg_lists.specs.declared.parts.Connection.{Connection}
use Rattle.qsg_lists.specs.declared.parts.Entry.{Entry}
use Rattle.qsg_lists.specs.declared.parts.Head.{Head}
use Rattle.qsg_lists.specs.declared.parts.Lost.{Lost}
use Rattle.qsg_lists.specs.declared.parts.Place.{Place}
use Rattle.qsg_lists.specs.declared.parts.Place.TheVariants.{Inline}
use Rattle.qsg_lists.specs.declared.parts.Seen.{Seen}
use Rattle.qsg_lists.specs.declared.parts.Selector.{Selector}
use Rattle.qsg_lists.specs.declared.parts.WriteWhy.{WriteWhy}
use Rattle.qsg_lists.specs.declared.parts.WriteWhy.TheVariants as why
use Rattle.qsg_lists.specs.Entries.{cost_of, depth_of}
use Rattle.qsg_lists.specs.Structures.{ListStructure, connect_answer, lost_of}
use Rattle.qsg_lists.specs.Writing.{free_of, room_refusal, lost_or}
use Rattle.qsg_logpage.specs.declared.writer.NoLog.{NoLog as NoPages}
use Rattle.qsg_repo.specs.Keeping.{keep}
use Rattle.qsg_requests.specs.declared.replies.Reason.{Reason}
use Rattle.qsg_requests.specs.declared.replies.Turn.{Turn}
use Rattle.qsg_requests.specs.declared.replies.Turn.TheVariants.{More, Ended, Waits}
use Rattle.qsg_requests.specs.declared.words.PutWords.{PutWords}
use Rattle.qsg_manager.specs.declared.managers.Manager.{Manager}
use Rattle.qsg_manager.specs.Facilities.{structure_in}
use Rattle.qsg_manager.specs.Getting.{found_in, with_taken, with_found}
use Rattle.qsg_manager.specs.Storage.{task_at, next_name}
use Rattle.qsg_group.specs.Changes.{open_task}
use Rattle.qsg_logs.specs.Kept.{log_in, with_reserved, with_record_of, fallen_back}
use Rattle.qsg_logs.specs.Writers.{reserve_answer}
use Rattle.qsg_parts.specs.Owned.{Owned}
use Rattle.qsg_put.specs.declared.checking.Terms.{Terms as PutTerms}
use Rattle.qsg_put.specs.declared.phases.Phase.{Phase as PutPhase}
use Rattle.qsg_put.specs.declared.phases.Phase.TheVariants as put_phase
use Rattle.qsg_put.specs.Checking.{check_answer as put_check}
use Rattle.qsg_put.specs.Messages.{head_of, logged}
use Rattle.qsg_put.specs.Steps as put
use Rattle.qsg_get.specs.declared.checking.Terms.{Terms as GetTerms}
use Rattle.qsg_get.specs.declared.phases.Phase.{Phase as GetPhase}
use Rattle.qsg_get.specs.declared.phases.Phase.TheVariants as get_phase
use Rattle.qsg_get.specs.Checking.{check_answer as get_check}
use Rattle.qsg_get.specs.Steps as get
use Rattle.qsg_get.specs.Works.{IsOwn}
use Rattle.qsg_works.specs.InHand.{IsOther}
use Rattle.qsg_pace.specs.Pace.{left_of_put, left_of_get}
use Rattle.qsg_pace.proofs.Looking.{hand_kept, size_kept, IsBeside, still_beside, both_beside, logged_beside, tasked_beside, fallen_hand, fallen_size, drawn_beside}

-- a step that goes on leaves fewer, and one that ended a request was one of those that were left
abbrev pub Lowers : Turn → ℕ → ℕ → Type 0
Lowers More new old = new < old
Lowers (Ended reply) new old = 1 ≤ old
Lowers (Waits cause) new old = Unit {0}

-- ---- a put

put_reserved : (m : Member) (t : TaskNo) (words : PutWords) (terms : PutTerms) (p : Owned) (r : Result (Unit {0}) NoPages) → Lowers (put.after_reserve m t words terms p r).turn (left_of_put (put.after_reserve m t words terms p r).phase) 3
put_reserved m t words terms p (Err why) = omega arith
put_reserved m t words terms p (Ok done) = omega arith

put_checked : (m : Member) (t : TaskNo) (words : PutWords) (p : Owned) (r : Result PutTerms Reason) → Lowers (put.after_check m t words p r).turn (left_of_put (put.after_check m t words p r).phase) 3
put_checked m t words p (Err reason) = omega arith
put_checked m t words p (Ok terms) = put_reserved m t words terms p (reserve_answer (put.unit_of m t p.managers) (put.need m t words terms p) (keep m p.repo) (log_in m p.logs).writer)

put_connected : (m : Member) (t : TaskNo) (u : UnitName) (terms : PutTerms) (p : Owned) (r : Result Seen Lost) → Lowers (put.after_connect m t u terms p r).turn (left_of_put (put.after_connect m t u terms p r).phase) 2
put_connected m t u terms p (Err lost) = omega arith
put_connected m t u terms p (Ok seen) = omega arith

no_room : (s : ListStructure) (head : Head) (place : Place) (most : ℕ) → room_refusal s head place most ≡ Some why.NoMemory → ⊥
no_room s head place most = by (nat_lt (free_of s) (cost_of place)) (nat_le most (depth_of head.queue s.entries))
  where
    by : (a b : Bool) → cond a (Some (why.Full (cost_of place) (free_of s))) (cond b (Some (why.QueueFull (depth_of head.queue s.entries))) None) ≡ Some why.NoMemory → ⊥
    by true b is = cc
    by false true is = cc
    by false false is = cc

-- want of memory isn't among the reasons to refuse a write
no_memory : (lost : Option Lost) (room : Option WriteWhy) → (room ≡ Some why.NoMemory → ⊥) → lost_or lost room ≡ Some why.NoMemory → ⊥
no_memory (Some lost) room none is = cc
no_memory None room none is = none is

put_written : (m : Member) (t : TaskNo) (words : PutWords) (u : UnitName) (terms : PutTerms) (epoch : ℕ) (p : Owned) (refusal : Option WriteWhy) → (refusal ≡ Some why.NoMemory → ⊥)
    → Lowers (put.after_write m t words u terms epoch p refusal).turn (left_of_put (put.after_write m t words u terms epoch p refusal).phase) 1
put_written m t words u terms epoch p None none = omega arith
put_written m t words u terms epoch p (Some (why.Lost lost)) none = omega arith
put_written m t words u terms epoch p (Some (why.Full need free)) none = omega arith
put_written m t words u terms epoch p (Some (why.QueueFull depth)) none = omega arith
put_written m t words u terms epoch p (Some why.NoMemory) none = absurd (none refl)

pub put_lowers : (m : Member) (t : TaskNo) (words : PutWords) (p : Owned) (phase : PutPhase) → Lowers (put.next_at m t words p phase).turn (left_of_put (put.next_at m t words p phase).phase) (left_of_put phase)
put_lowers m t words p put_phase.Check = put_checked m t words p (put_check p.objects words (length (task_at m t p.managers).ops))
put_lowers m t words p (put_phase.Connect u terms) = put_connected m t u terms p (connect_answer (structure_in terms.structure p.structures))
put_lowers m t words p (put_phase.Write u terms epoch) =
    let s = structure_in terms.structure p.structures in
    let none = no_memory (lost_of s (put.use_of terms epoch)) (room_refusal s (head_of words terms) (Inline words.body) terms.max_depth) (no_room s (head_of words terms) (Inline words.body) terms.max_depth) in
    put_written m t words u terms epoch p (put.refusal_of words terms epoch p) none

-- its check leaves all structures
reserved_structures : (m : Member) (t : TaskNo) (words : PutWords) (terms : PutTerms) (p : Owned) (r : Result (Unit {0}) NoPages) → (put.after_reserve m t words terms p r).parts.structures ≡ p.structures
reserved_structures m t words terms p (Err why) = refl
reserved_structures m t words terms p (Ok done) = refl

checked_structures : (m : Member) (t : TaskNo) (words : PutWords) (p : Owned) (r : Result PutTerms Reason) → (put.after_check m t words p r).parts.structures ≡ p.structures
checked_structures m t words p (Err reason) = refl
checked_structures m t words p (Ok terms) = reserved_structures m t words terms p (reserve_answer (put.unit_of m t p.managers) (put.need m t words terms p) (keep m p.repo) (log_in m p.logs).writer)

pub put_structures : (m : Member) (t : TaskNo) (words : PutWords) (p : Owned) → (put.next_at m t words p put_phase.Check).parts.structures ≡ p.structures
put_structures m t words p = checked_structures m t words p (put_check p.objects words (length (task_at m t p.managers).ops))

put_fallen : (m : Member) (t : TaskNo) (u : UnitName) (p : Owned) → IsBeside m t p (put.fallen m t u p)
put_fallen m t u p = logged_beside m t (fallen_back t u (put.has_operations m t p.managers) (log_in m p.logs)) p (fallen_hand t u (put.has_operations m t p.managers) (log_in m p.logs)) (fallen_size t u (put.has_operations m t p.managers) (log_in m p.logs))

put_named : (unit : Option UnitName) (m : Member) (t : TaskNo) (ms : List Manager) (k : Member) (w : TaskNo) → IsOther m t k w → task_at k w (put.named unit m t ms) ≡ task_at k w ms
put_named None m t ms k w other = drawn_beside m t (open_task (next_name m ms) [] []) ms k w other
put_named (Some u) m t ms k w other = refl

put_paged : (m : Member) (t : TaskNo) (words : PutWords) (terms : PutTerms) (p : Owned) (r : Result (Unit {0}) NoPages) → IsBeside m t p (put.after_reserve m t words terms p r).parts
put_paged m t words terms p (Err why) = still_beside m t p
put_paged m t words terms p (Ok done) = record {
  tasks = λ k w other. put_named (task_at m t p.managers).unit m t p.managers k w other;
  hands = λ k w other hardens. hand_kept m (with_reserved (put.unit_of m t p.managers) (put.need m t words terms p) (log_in m p.logs)) p.logs refl k;
  sizes = λ k. size_kept m (with_reserved (put.unit_of m t p.managers) (put.need m t words terms p) (log_in m p.logs)) p.logs refl k;
  lives = refl;
  starts = refl;
}

put_seen : (m : Member) (t : TaskNo) (words : PutWords) (p : Owned) (r : Result PutTerms Reason) → IsBeside m t p (put.after_check m t words p r).parts
put_seen m t words p (Err reason) = still_beside m t p
put_seen m t words p (Ok terms) = put_paged m t words terms p (reserve_answer (put.unit_of m t p.managers) (put.need m t words terms p) (keep m p.repo) (log_in m p.logs).writer)

put_joined : (m : Member) (t : TaskNo) (u : UnitName) (terms : PutTerms) (p : Owned) (r : Result Seen Lost) → IsBeside m t p (put.after_connect m t u terms p r).parts
put_joined m t u terms p (Err lost) = put_fallen m t u p
put_joined m t u terms p (Ok seen) = still_beside m t p

put_refused : (m : Member) (t : TaskNo) (u : UnitName) (terms : PutTerms) (epoch : ℕ) (p : Owned) (reason : Option Reason) → IsBeside m t p (put.after_refusal m t u terms epoch p reason).parts
put_refused m t u terms epoch p (Some reason) = put_fallen m t u p
put_refused m t u terms epoch p None = still_beside m t p

put_made : (m : Member) (t : TaskNo) (words : PutWords) (u : UnitName) (terms : PutTerms) (epoch : ℕ) (p : Owned) (refusal : Option WriteWhy) → IsBeside m t p (put.after_write m t words u terms epoch p refusal).parts
put_made m t words u terms epoch p None =
    both_beside m t p (put.with_entry m t words u terms epoch p) (put.with_message m t words u terms epoch p) (tasked_beside m t _ _ p) (logged_beside m t (with_record_of t (logged words terms) (log_in m p.logs)) (put.with_entry m t words u terms epoch p) refl refl)
put_made m t words u terms epoch p (Some why) = put_refused m t u terms epoch p (put.reason_of why)

pub put_beside : (m : Member) (t : TaskNo) (words : PutWords) (p : Owned) (phase : PutPhase) → IsBeside m t p (put.next_at m t words p phase).parts
put_beside m t words p put_phase.Check = put_seen m t words p (put_check p.objects words (length (task_at m t p.managers).ops))
put_beside m t words p (put_phase.Connect u terms) = put_joined m t u terms p (connect_answer (structure_in terms.structure p.structures))
put_beside m t words p (put_phase.Write u terms epoch) = put_made m t words u terms epoch p (put.refusal_of words terms epoch p)

-- ---- a get

get_reserved : (m : Member) (t : TaskNo) (terms : GetTerms) (p : Owned) (r : Result (Unit {0}) NoPages) → Lowers (get.after_reserve m t terms p r).turn (left_of_get (get.after_reserve m t terms p r).phase) 3
get_reserved m t terms p (Err why) = omega arith
get_reserved m t terms p (Ok done) = omega arith

get_checked : (m : Member) (t : TaskNo) (p : Owned) (r : Result GetTerms Reason) → Lowers (get.after_check m t p r).turn (left_of_get (get.after_check m t p r).phase) 3
get_checked m t p (Err reason) = omega arith
get_checked m t p (Ok terms) = get_reserved m t terms p (reserve_answer (get.unit_of m t p.managers) (get.need m t p) (keep m p.repo) (log_in m p.logs).writer)

get_connected : (m : Member) (t : TaskNo) (u : UnitName) (terms : GetTerms) (p : Owned) (r : Result Seen Lost) → Lowers (get.after_connect m t u terms p r).turn (left_of_get (get.after_connect m t u terms p r).phase) 2
get_connected m t u terms p (Err lost) = omega arith
get_connected m t u terms p (Ok seen) = omega arith

get_took : (m : Member) (t : TaskNo) (u : UnitName) (terms : GetTerms) (epoch : ℕ) (p : Owned) (lost : Option Lost) (found : Option Entry) → Lowers (get.after_take m t u terms epoch p lost found).turn (left_of_get (get.after_take m t u terms epoch p lost found).phase) 1
get_took m t u terms epoch p (Some lost) found = omega arith
get_took m t u terms epoch p None None = omega arith
get_took m t u terms epoch p None (Some e) = omega arith

pub get_lowers : (m : Member) (t : TaskNo) (queue : List ℕ) (select : Selector) (p : Owned) (phase : GetPhase) → Lowers (get.next_at m t queue select p phase).turn (left_of_get (get.next_at m t queue select p phase).phase) (left_of_get phase)
get_lowers m t queue select p get_phase.Check = get_checked m t p (get_check p.objects queue (length (task_at m t p.managers).ops))
get_lowers m t queue select p (get_phase.Connect u terms) = get_connected m t u terms p (connect_answer (structure_in terms.structure p.structures))
get_lowers m t queue select p (get_phase.Take u terms epoch) =
    get_took m t u terms epoch p (lost_of (structure_in terms.structure p.structures) (get.use_of terms epoch)) (found_in (get.use_of terms epoch) queue terms.order select p.structures)

get_fallen : (m : Member) (t : TaskNo) (u : UnitName) (p : Owned) → IsBeside m t p (get.fallen m t u p)
get_fallen m t u p = logged_beside m t (fallen_back t u (get.has_operations m t p.managers) (log_in m p.logs)) p (fallen_hand t u (get.has_operations m t p.managers) (log_in m p.logs)) (fallen_size t u (get.has_operations m t p.managers) (log_in m p.logs))

get_named : (unit : Option UnitName) (m : Member) (t : TaskNo) (ms : List Manager) (k : Member) (w : TaskNo) → IsOther m t k w → task_at k w (get.named unit m t ms) ≡ task_at k w ms
get_named None m t ms k w other = drawn_beside m t (open_task (next_name m ms) [] []) ms k w other
get_named (Some u) m t ms k w other = refl

get_paged : (m : Member) (t : TaskNo) (terms : GetTerms) (p : Owned) (r : Result (Unit {0}) NoPages) → IsBeside m t p (get.after_reserve m t terms p r).parts
get_paged m t terms p (Err why) = still_beside m t p
get_paged m t terms p (Ok done) = record {
  tasks = λ k w other. get_named (task_at m t p.managers).unit m t p.managers k w other;
  hands = λ k w other hardens. hand_kept m (with_reserved (get.unit_of m t p.managers) (get.need m t p) (log_in m p.logs)) p.logs refl k;
  sizes = λ k. size_kept m (with_reserved (get.unit_of m t p.managers) (get.need m t p) (log_in m p.logs)) p.logs refl k;
  lives = refl;
  starts = refl;
}

get_seen : (m : Member) (t : TaskNo) (p : Owned) (r : Result GetTerms Reason) → IsBeside m t p (get.after_check m t p r).parts
get_seen m t p (Err reason) = still_beside m t p
get_seen m t p (Ok terms) = get_paged m t terms p (reserve_answer (get.unit_of m t p.managers) (get.need m t p) (keep m p.repo) (log_in m p.logs).writer)

get_joined : (m : Member) (t : TaskNo) (u : UnitName) (terms : GetTerms) (p : Owned) (r : Result Seen Lost) → IsBeside m t p (get.after_connect m t u terms p r).parts
get_joined m t u terms p (Err lost) = get_fallen m t u p
get_joined m t u terms p (Ok seen) = still_beside m t p

-- the entry is marked, and the operation is in the unit of the task
get_marked : (t : TaskNo) (u : UnitName) (c : Connection) (e : Entry) (p : Owned) → IsBeside u.member t p (get.with_message u.member t u c e p)
get_marked t u c e p =
    let m = u.member in
    let q : Owned = record p { structures = with_taken u c (Some e) p.structures; managers = with_found m t c (Some e) p.managers } in
    both_beside m t p q (get.with_message m t u c e p) (tasked_beside m t _ _ p) (logged_beside m t (fallen_back t u true (with_record_of t (get.logged e.head.persistent) (log_in m p.logs))) q refl refl)

get_made : (m : Member) (t : TaskNo) (u : UnitName) (terms : GetTerms) (epoch : ℕ) (p : Owned) (lost : Option Lost) (found : Option Entry) → u.member ≡ m → IsBeside m t p (get.after_take m t u terms epoch p lost found).parts
get_made m t u terms epoch p (Some lost) found own = get_fallen m t u p
get_made m t u terms epoch p None None own = get_fallen m t u p
get_made m t u terms epoch p None (Some e) own = subst (λ (k : Member). IsBeside k t p (get.with_message k t u (get.use_of terms epoch) e p)) own (get_marked t u (get.use_of terms epoch) e p)

pub get_beside : (m : Member) (t : TaskNo) (queue : List ℕ) (select : Selector) (p : Owned) (phase : GetPhase) → IsOwn m phase → IsBeside m t p (get.next_at m t queue select p phase).parts
get_beside m t queue select p get_phase.Check own = get_seen m t p (get_check p.objects queue (length (task_at m t p.managers).ops))
get_beside m t queue select p (get_phase.Connect u terms) own = get_joined m t u terms p (connect_answer (structure_in terms.structure p.structures))
get_beside m t queue select p (get_phase.Take u terms epoch) own =
    get_made m t u terms epoch p (lost_of (structure_in terms.structure p.structures) (get.use_of terms epoch)) (found_in (get.use_of terms epoch) queue terms.order select p.structures) own
