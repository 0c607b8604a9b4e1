-- each step of a get moves the machine by one action, or not at all
use Rattle.std.proofs.Common.{◌≡◌, ℕ, List, Option, Some, None, Result, Ok, Err, refl, inl, inr}
use Rattle.qsg_num.specs.declared.seats.Member.{Member}
use Rattle.qsg_num.specs.declared.seats.TaskNo.{TaskNo}
use Rattle.qsg_num.specs.declared.ids.UnitName.{UnitName}
use Rattle.qsg_lists.specs.declared.parts.Entry.{Entry}
use Rattle.qsg_lists.specs.declared.parts.Lost.{Lost}
use Rattle.qsg_lists.specs.declared.parts.Seen.{Seen}
use Rattle.qsg_lists.specs.declared.parts.Selector.{Selector}
use Rattle.qsg_lists.specs.Structures.{lost_of, connect_answer}
use Rattle.qsg_logpage.specs.declared.writer.NoLog.{NoLog as NoPages}
use Rattle.qsg_repo.specs.Keeping.{keep}
use Rattle.qsg_requests.specs.declared.replies.Reason.{Reason}
use Rattle.qsg_manager.specs.Facilities.{structure_in}
use Rattle.qsg_manager.specs.Getting.{found_in}
use Rattle.qsg_manager.specs.Storage.{task_at}
use Rattle.qsg_manager.specs.Groups.{Rest, group_of}
use Rattle.qsg_manager.proofs.Ending.{draw_is_draw}
use Rattle.qsg_manager.proofs.Gets.{get_is_get}
use Rattle.qsg_logs.specs.Kept.{log_in}
use Rattle.qsg_logs.specs.Writers.{reserve_answer}
use Rattle.qsg_parts.specs.Owned.{Owned}
use Rattle.qsg_get.specs.declared.checking.Terms.{Terms}
use Rattle.qsg_get.specs.declared.phases.Phase.{Phase}
use Rattle.qsg_get.specs.declared.phases.Phase.TheVariants.{Check, Connect, Take}
use Rattle.qsg_get.specs.Checking.{check_answer}
use Rattle.qsg_get.specs.Works.{Work}
use Rattle.qsg_get.specs.Steps.{unit_of, named, need, after_reserve, after_check, after_connect, after_take, use_of, next_get, next_at}
use Rattle.qsg_get.specs.Moves.{MovesTo, seen, MayDrawAt, MayGetAt, MayMoveAt, MayMove}

named_moves : (rest : Rest) (m : Member) (t : TaskNo) (p : Owned) (o : Option UnitName) → (task_at m t p.managers).unit ≡ o → MayDrawAt m t p
    → MovesTo (seen rest p) (group_of rest p.structures (named o m t p.managers))
named_moves rest m t p (Some u) is may = inl refl
named_moves rest m t p None is may = inr (draw_is_draw rest p.structures p.managers m t (record { member = may.member; up = may.up; free = may.named is }))

reserve_moves : (rest : Rest) (m : Member) (t : TaskNo) (terms : Terms) (p : Owned) (answer : Result (Unit {0}) NoPages) → MayDrawAt m t p
    → MovesTo (seen rest p) (seen rest (after_reserve m t terms p answer).parts)
reserve_moves rest m t terms p (Err why) may = inl refl
reserve_moves rest m t terms p (Ok done) may = named_moves rest m t p (task_at m t p.managers).unit refl may

check_moves : (rest : Rest) (m : Member) (t : TaskNo) (p : Owned) (answer : Result Terms Reason) → MayDrawAt m t p → MovesTo (seen rest p) (seen rest (after_check m t p answer).parts)
check_moves rest m t p (Err reason) may = inl refl
check_moves rest m t p (Ok terms) may = reserve_moves rest m t terms p (reserve_answer (unit_of m t p.managers) (need m t p) (keep m p.repo) (log_in m p.logs).writer) may

connect_moves : (rest : Rest) (m : Member) (t : TaskNo) (u : UnitName) (terms : Terms) (p : Owned) (answer : Result Seen Lost) → MovesTo (seen rest p) (seen rest (after_connect m t u terms p answer).parts)
connect_moves rest m t u terms p (Err lost) = inl refl
connect_moves rest m t u terms p (Ok told) = inl refl

take_moves : (rest : Rest) (m : Member) (t : TaskNo) (queue : List ℕ) (select : Selector) (u : UnitName) (terms : Terms) (epoch : ℕ) (p : Owned) (lost : Option Lost) (found : Option Entry)
    → lost_of (structure_in terms.structure p.structures) (use_of terms epoch) ≡ lost → found_in (use_of terms epoch) queue terms.order select p.structures ≡ found → MayGetAt t u terms p
    → MovesTo (seen rest p) (seen rest (after_take m t u terms epoch p lost found).parts)
take_moves rest m t queue select u terms epoch p (Some l) found is there may = inl refl
take_moves rest m t queue select u terms epoch p None None is there may = inl refl
take_moves rest m t queue select u terms epoch p None (Some e) is there may =
    inr (get_is_get rest p.structures p.managers u t (task_at u.member t p.managers).ops (task_at u.member t p.managers).claims (use_of terms epoch) queue terms.order select e
    (record { member = may.member; structure = record { within = may.structure; served = is }; has = may.has; found = there; ordered = may.ordered }))

at_moves : (rest : Rest) (m : Member) (t : TaskNo) (queue : List ℕ) (select : Selector) (p : Owned) (phase : Phase) → MayMoveAt m t p phase → MovesTo (seen rest p) (seen rest (next_at m t queue select p phase).parts)
at_moves rest m t queue select p Check may = check_moves rest m t p (check_answer p.objects queue _) may
at_moves rest m t queue select p (Connect u terms) may = connect_moves rest m t u terms p (connect_answer (structure_in terms.structure p.structures))
at_moves rest m t queue select p (Take u terms epoch) may = take_moves rest m t queue select u terms epoch p _ _ refl refl may

pub step_moves : (rest : Rest) (work : Work) (p : Owned) → MayMove work p → MovesTo (seen rest p) (seen rest (next_get work p).parts)
step_moves rest work p may = at_moves rest work.member work.task work.queue work.select p work.phase may
