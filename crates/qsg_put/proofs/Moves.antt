-- a step of a put in the machine
use Rattle.std.proofs.Common.{◌≡◌, ℕ, true, List, length, Option, Some, None, Result, Ok, Err, refl, subst, inl, inr}
use Rattle.qsg_num.specs.declared.seats.Member.{Member}
use Rattle.qsg_num.specs.declared.seats.StructNo.{StructNo}
use Rattle.qsg_num.specs.declared.seats.TaskNo.{TaskNo}
use Rattle.qsg_num.specs.declared.ids.UnitName.{UnitName}
use Rattle.qsg_msg.specs.declared.message.Message.{Message}
use Rattle.qsg_model.specs.declared.history.Op.{Op}
use Rattle.qsg_lists.specs.declared.parts.Connection.{Connection}
use Rattle.qsg_lists.specs.declared.parts.Head.{Head}
use Rattle.qsg_lists.specs.declared.parts.Lost.{Lost}
use Rattle.qsg_lists.specs.declared.parts.Place.{Place}
use Rattle.qsg_lists.specs.declared.parts.Place.TheVariants.{Inline}
use Rattle.qsg_lists.specs.declared.parts.Seen.{Seen}
use Rattle.qsg_lists.specs.declared.parts.WriteWhy.{WriteWhy}
use Rattle.qsg_lists.specs.Structures.{ListStructure, lost_of, connect_answer}
use Rattle.qsg_lists.specs.Writing.{written, next_id, lost_or, room_refusal}
use Rattle.qsg_logpage.specs.declared.writer.NoLog.{NoLog as NoPages}
use Rattle.qsg_logs.specs.Kept.{log_in}
use Rattle.qsg_logs.specs.Writers.{reserve_answer}
use Rattle.qsg_repo.specs.Keeping.{keep}
use Rattle.qsg_requests.specs.declared.words.PutWords.{PutWords}
use Rattle.qsg_requests.specs.declared.replies.Reason.{Reason}
use Rattle.qsg_group.specs.declared.tasks.Claim.{Claim}
use Rattle.qsg_group.specs.Group.{idle}
use Rattle.qsg_group.specs.Changes.{Change}
use Rattle.qsg_manager.specs.declared.managers.Manager.{Manager}
use Rattle.qsg_manager.specs.Actions.{IsMember, MayDrawName, MayWrite}
use Rattle.qsg_manager.specs.Facilities.{structure_in, with_structure}
use Rattle.qsg_manager.specs.Groups.{Rest, group_of}
use Rattle.qsg_manager.specs.Putting.{with_put}
use Rattle.qsg_manager.specs.Storage.{manager_in, task_at, with_task}
use Rattle.qsg_manager.specs.Units.{with_name}
use Rattle.qsg_parts.specs.Owned.{Owned}
use Rattle.qsg_put.specs.declared.checking.Terms.{Terms}
use Rattle.qsg_put.specs.declared.phases.Phase.{Phase}
use Rattle.qsg_put.specs.declared.phases.Phase.TheVariants.{Check, Connect, Write}
use Rattle.qsg_put.specs.Checking.{check_answer}
use Rattle.qsg_put.specs.Messages.{no_id, message_of, head_of}
use Rattle.qsg_put.specs.Works.{Work, IsSound}
use Rattle.qsg_put.specs.Steps.{Next, unit_of, named, need, reason_of, after_reserve, after_check, after_connect, after_refusal, after_write, refusal_of, use_of, next_at, next_put}
use Rattle.qsg_put.specs.Needs as needs
use Rattle.qsg_put.specs.Outcomes.{IsStep, HasOpen, HoldsAt, IsAtWork}

-- what a step leaves, as a step of the machine
abbrev Moves : Rest → Owned → Next → Type 0
Moves rest p next = IsStep (group_of rest p.structures p.managers) (group_of rest next.parts.structures next.parts.managers)

-- the laws of draw and of write
abbrev pub Draw : Type 0
Draw = (rest : Rest) (structures : List ListStructure) (managers : List Manager) (m : Member) (t : TaskNo) →
    MayDrawName managers m t → Change (group_of rest structures managers) (group_of rest structures (with_name m t managers))

abbrev pub WriteIs : Type 0
WriteIs = (rest : Rest) (structures : List ListStructure) (managers : List Manager) (u : UnitName) (t : TaskNo) (ops : List (StructNo × Op)) (claims : List Claim) (connection : Connection) (head : Head) (place : Place) (message : Message) →
    MayWrite rest.outside structures managers u t ops claims connection head place message →
    Change (group_of rest structures managers)
    (group_of rest (with_structure connection.structure (written (structure_in connection.structure structures) u head place) structures)
    (with_task u.member t (with_put connection message (next_id (structure_in connection.structure structures)) (task_at u.member t managers)) managers))

-- ---- the check

naming : Draw → (rest : Rest) (structures : List ListStructure) (managers : List Manager) (m : Member) (t : TaskNo) (held : Option UnitName) → IsMember m managers → (manager_in m managers).up ≡ true → (held ≡ None → task_at m t managers ≡ idle)
    → IsStep (group_of rest structures managers) (group_of rest structures (named held m t managers))
naming draw rest structures managers m t (Some u) member up free = inl refl
naming draw rest structures managers m t None member up free = inr (draw rest structures managers m t (record { member = member; up = up; free = free refl }))

reserving : Draw → (rest : Rest) (m : Member) (t : TaskNo) (words : PutWords) (terms : Terms) (p : Owned) (answer : Result (Unit {0}) NoPages) → IsMember m p.managers → (manager_in m p.managers).up ≡ true → HoldsAt m t p.managers Check
    → Moves rest p (after_reserve m t words terms p answer)
reserving draw rest m t words terms p (Err refused) member up holds = inl refl
reserving draw rest m t words terms p (Ok done) member up holds = naming draw rest p.structures p.managers m t (task_at m t p.managers).unit member up holds

checking : Draw → (rest : Rest) (m : Member) (t : TaskNo) (words : PutWords) (p : Owned) (answer : Result Terms Reason) → IsMember m p.managers → (manager_in m p.managers).up ≡ true → HoldsAt m t p.managers Check
    → Moves rest p (after_check m t words p answer)
checking draw rest m t words p (Err reason) member up holds = inl refl
checking draw rest m t words p (Ok terms) member up holds =
    reserving draw rest m t words terms p (reserve_answer (unit_of m t p.managers) (need m t words terms p) (keep m p.repo) (log_in m p.logs).writer) member up holds

-- ---- the connection

connecting : (rest : Rest) (m : Member) (t : TaskNo) (u : UnitName) (terms : Terms) (p : Owned) (answer : Result Seen Lost) → Moves rest p (after_connect m t u terms p answer)
connecting rest m t u terms p (Err lost) = inl refl
connecting rest m t u terms p (Ok seen) = inl refl

-- ---- the entry

served : (lost : Option Lost) (room : Option WriteWhy) → lost_or lost room ≡ None → lost ≡ None
served None room is = refl
served (Some lost) room is = absurd cc

refusing : (rest : Rest) (m : Member) (t : TaskNo) (u : UnitName) (terms : Terms) (epoch : ℕ) (p : Owned) (reason : Option Reason) → Moves rest p (after_refusal m t u terms epoch p reason)
refusing rest m t u terms epoch p (Some reason) = inl refl
refusing rest m t u terms epoch p None = inl refl

writing : WriteIs → (rest : Rest) (t : TaskNo) (words : PutWords) (u : UnitName) (terms : Terms) (epoch : ℕ) (p : Owned) (refusal : Option WriteWhy)
    → refusal_of words terms epoch p ≡ refusal → needs.MayWrite u.member t words u terms p → IsMember u.member p.managers → HasOpen u.member t u p.managers
    → Moves rest p (after_write u.member t words u terms epoch p refusal)
writing write rest t words u terms epoch p (Some why) is may member held = refusing rest u.member t u terms epoch p (reason_of why)
writing write rest t words u terms epoch p None is may member held =
    inr (write rest p.structures p.managers u t held.ops held.claims (use_of terms epoch) (head_of words terms) (Inline words.body) (message_of words terms no_id) (record {
      member = member;
      structure = record {
        within = may.ready.structure;
        served = served (lost_of (structure_in terms.structure p.structures) (use_of terms epoch)) (room_refusal (structure_in terms.structure p.structures) (head_of words terms) (Inline words.body) terms.max_depth) is;
      };
      has = held.has;
      fits = may.left;
      says = refl;
    }))

writing_of : WriteIs → (rest : Rest) (m : Member) (t : TaskNo) (words : PutWords) (u : UnitName) (terms : Terms) (epoch : ℕ) (p : Owned)
    → u.member ≡ m → needs.MayWrite m t words u terms p → IsMember m p.managers → HasOpen m t u p.managers
    → Moves rest p (after_write m t words u terms epoch p (refusal_of words terms epoch p))
writing_of write rest m t words u terms epoch p own =
    subst (λ (k : Member). needs.MayWrite k t words u terms p → IsMember k p.managers → HasOpen k t u p.managers → Moves rest p (after_write k t words u terms epoch p (refusal_of words terms epoch p))) own
    (writing write rest t words u terms epoch p (refusal_of words terms epoch p) refl)

-- ---- each step

moves_at : Draw → WriteIs → (rest : Rest) (m : Member) (t : TaskNo) (words : PutWords) (p : Owned) (phase : Phase) → needs.MayStepAt m t words p phase → IsSound m words.body phase
    → IsMember m p.managers → (manager_in m p.managers).up ≡ true → HoldsAt m t p.managers phase → Moves rest p (next_at m t words p phase)
moves_at draw write rest m t words p Check may sound member up holds = checking draw rest m t words p (check_answer p.objects words (length (task_at m t p.managers).ops)) member up holds
moves_at draw write rest m t words p (Connect u terms) may sound member up holds = connecting rest m t u terms p (connect_answer (structure_in terms.structure p.structures))
moves_at draw write rest m t words p (Write u terms epoch) may sound member up holds = writing_of write rest m t words u terms epoch p sound.own may member holds

pub step_moves : Draw → WriteIs → (rest : Rest) (work : Work) (p : Owned) → needs.MayStep work p → IsSound work.member work.words.body work.phase → IsAtWork work p.managers → Moves rest p (next_put work p)
step_moves draw write rest work p may sound at = moves_at draw write rest work.member work.task work.words p work.phase may sound at.member at.up at.holds
