-- what the other tasks look at stays
use Rattle.std.proofs.Common.{◌≡◌, ℕ, List, [], ◌∷◌, ◌++◌, Bool, true, false, Option, Some, None, refl, sym, ap, subst, ◌∙◌, inl, inr}
use Rattle.qsg_num.specs.declared.seats.Member.{Member}
use Rattle.qsg_num.specs.declared.seats.TaskNo.{TaskNo}
use Rattle.qsg_num.specs.declared.ids.UnitName.{UnitName}
use Rattle.qsg_num.specs.Seats.{member_number, task_number}
use Rattle.qsg_num.specs.Ids.{same_unit}
use Rattle.qsg_logpage.specs.declared.table.Reservation.{Reservation}
use Rattle.qsg_logpage.specs.declared.step.Phase.{Phase}
use Rattle.qsg_logpage.specs.declared.step.Phase.TheVariants.{Fresh, GateShut, ShutSafe, BodyWritten, BodySafe, GateWritten}
use Rattle.qsg_logpage.specs.Log.{LogState, Hand, advanced, advanced_by}
use Rattle.qsg_logpage.specs.Reserved.{besides, lowered}
use Rattle.qsg_logpage.proofs.Totals.{pages_for-set, pages_for-besides}
use Rattle.qsg_group.specs.declared.tasks.Task.{Task}
use Rattle.qsg_group.specs.Observers.{is_hardening}
use Rattle.qsg_group.proofs.Tables.{cases_member}
use Rattle.qsg_manager.specs.Storage.{task_in, task_at}
use Rattle.qsg_logs.specs.Held.{HoldsUnit, IsHandOf, AreHeld}
use Rattle.qsg_logs.specs.Kept.{KeptLog, log_in, filling_of}
use Rattle.qsg_logs.proofs.Owners.{pages_for-lowered_other}
use Rattle.qsg_unitlog.proofs.Lists.{same_is}
use Rattle.qsg_parts.specs.Owned.{Owned}
use Rattle.qsg_steady.specs.Standing.{pages_of, stand, SparesOthers}
use Rattle.qsg_steady.proofs.Moving.{AreBeside}

-- of a member, what its tasks but one look at is as it was
pub record AreSpared (m : Member) (t : TaskNo) (p q : Owned) : Type 0 where
  pub tasks : (w : TaskNo) → (task_number w ≡ task_number t → ⊥) → task_at m w q.managers ≡ task_at m w p.managers
  pub fillings : (w : TaskNo) → (task_number w ≡ task_number t → ⊥) → filling_of w (log_in m q.logs) ≡ filling_of w (log_in m p.logs)
  pub pages : (w : TaskNo) → (task_number w ≡ task_number t → ⊥) → pages_of (task_at m w p.managers).unit (log_in m q.logs).writer.reserved ≡ pages_of (task_at m w p.managers).unit (log_in m p.logs).writer.reserved

pub spared : (m : Member) (t : TaskNo) (p q : Owned) → AreBeside m p q → AreSpared m t p q → SparesOthers m t p q
spared m t p q beside own k w other = elim (cases_member k m) [
  | inl same ↦
      let differ : task_number w ≡ task_number t → ⊥ = other (ap member_number same) in
      subst (λ x. stand x w q ≡ stand x w p) (sym same) (λ i. record {
        task = own.tasks w differ i;
        filling = own.fillings w differ i;
        pages = (ap (λ (x : Task). pages_of x.unit (log_in m q.logs).writer.reserved) (own.tasks w differ) ∙ own.pages w differ) i;
        members = beside.managers i;
        logs = beside.logs i;
        structures = beside.structures i;
      })
  | inr differ ↦ λ i. record {
    task = task_in w (beside.manager k differ i).tasks;
    filling = filling_of w (beside.log k differ i);
    pages = pages_of (task_in w (beside.manager k differ i).tasks).unit (beside.log k differ i).writer.reserved;
    members = beside.managers i;
    logs = beside.logs i;
    structures = beside.structures i;
  }
]

-- ---- reservations of other units

-- the unit of another task is another one
pub unit_differs : (tasks : TaskNo → Task) (log : KeptLog) (t w : TaskNo) (u : UnitName) → AreHeld tasks log → HoldsUnit tasks u t → (task_number w ≡ task_number t → ⊥) → (v : UnitName) → HoldsUnit tasks v w → same_unit v u ≡ false
unit_differs tasks log t w u held holds differ v has = by (same_unit v u) refl
  where
    by : (b : Bool) → same_unit v u ≡ b → same_unit v u ≡ false
    by true is = absurd (differ (ap task_number (held.once u w t (subst (λ x. HoldsUnit tasks x w) (same_is v u is) has) holds)))
    by false is = is

pub reserved_beside : (x : Option UnitName) (u : UnitName) (n : ℕ) (rs : List Reservation) → ((v : UnitName) → x ≡ Some v → same_unit v u ≡ false) → pages_of x (besides u rs ++ record { unit = u; pages = n } ∷ []) ≡ pages_of x rs
reserved_beside None u n rs apart = refl
reserved_beside (Some v) u n rs apart = pages_for-set v u n rs (apart v refl)

pub released_beside : (x : Option UnitName) (u : UnitName) (rs : List Reservation) → ((v : UnitName) → x ≡ Some v → same_unit v u ≡ false) → pages_of x (besides u rs) ≡ pages_of x rs
released_beside None u rs apart = refl
released_beside (Some v) u rs apart = pages_for-besides v u rs (apart v refl)

lowered_beside : (x : Option UnitName) (u : UnitName) (rs : List Reservation) → ((v : UnitName) → x ≡ Some v → same_unit v u ≡ false) → pages_of x (lowered u rs) ≡ pages_of x rs
lowered_beside None u rs apart = refl
lowered_beside (Some v) u rs apart = pages_for-lowered_other v u rs (apart v refl)

phase_beside : (x : Option UnitName) (writer : LogState) (hand : Hand) (phase : Phase) → ((v : UnitName) → x ≡ Some v → same_unit v hand.unit ≡ false) → pages_of x (advanced_by writer hand phase).reserved ≡ pages_of x writer.reserved
phase_beside x writer hand Fresh apart = refl
phase_beside x writer hand GateShut apart = refl
phase_beside x writer hand ShutSafe apart = refl
phase_beside x writer hand BodyWritten apart = refl
phase_beside x writer hand BodySafe apart = refl
phase_beside x writer hand GateWritten apart = lowered_beside x hand.unit writer.reserved apart

abbrev advanced_with : LogState → Option Hand → LogState
advanced_with writer None = writer
advanced_with writer (Some h) = advanced_by writer h h.phase

advanced_is : (writer : LogState) (hand : Option Hand) → writer.hand ≡ hand → advanced writer ≡ advanced_with writer hand
advanced_is writer None is = ap (λ (h : Option Hand). elim h [ None ↦ writer | Some x ↦ advanced_by writer x x.phase ]) is
advanced_is writer (Some h) is = ap (λ (h : Option Hand). elim h [ None ↦ writer | Some x ↦ advanced_by writer x x.phase ]) is

hand_beside : (tasks : TaskNo → Task) (log : KeptLog) (t w : TaskNo) (writer : LogState) (hand : Option Hand) → writer.hand ≡ hand → AreHeld tasks log → IsHandOf tasks hand → is_hardening (tasks t).stage ≡ true → (task_number w ≡ task_number t → ⊥)
    → pages_of (tasks w).unit (advanced_with writer hand).reserved ≡ pages_of (tasks w).unit writer.reserved
hand_beside tasks log t w writer None is held own hardens differ = refl
hand_beside tasks log t w writer (Some h) is held own hardens differ =
    let here : HoldsUnit tasks h.unit t = subst (λ x. HoldsUnit tasks h.unit x) (sym (own.only t hardens)) own.holds in
    phase_beside (tasks w).unit writer h h.phase (λ v has. unit_differs tasks log t w h.unit held here differ v has)

-- a step of the page in hand is of the run of the task that is hardening
pub advanced_beside : (tasks : TaskNo → Task) (log : KeptLog) (t w : TaskNo) → AreHeld tasks log → is_hardening (tasks t).stage ≡ true → (task_number w ≡ task_number t → ⊥)
    → pages_of (tasks w).unit (advanced log.writer).reserved ≡ pages_of (tasks w).unit log.writer.reserved
advanced_beside tasks log t w held hardens differ =
    ap (λ (l : LogState). pages_of (tasks w).unit l.reserved) (advanced_is log.writer log.writer.hand refl) ∙ hand_beside tasks log t w log.writer log.writer.hand refl held held.hand hardens differ
