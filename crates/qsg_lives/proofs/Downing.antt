-- a member that is down, in its storage and among those of the others
use Rattle.std.proofs.Common.{◌≡◌, inl, inr, ℕ, ◌-◌, ◌≤◌, List, [], ◌∷◌, length, Bool, true, false, cond, Option, Some, None, refl, sym, ap, subst, ◌∙◌, arith, length-set, replicate, true≢false}
use Rattle.std.specs.Prelude.{is_some, find}
use Rattle.std.proofs.lemmas.Option.{none-some, same_Some}
use Rattle.qsg_num.specs.declared.seats.Member.{Member}
use Rattle.qsg_num.specs.declared.seats.TaskNo.{TaskNo}
use Rattle.qsg_num.specs.declared.seats.TaskNo.TheVariants as number
use Rattle.qsg_num.specs.declared.ids.UnitName.{UnitName}
use Rattle.qsg_num.specs.Seats.{member_number}
use Rattle.qsg_model.specs.declared.history.Item.{Item}
use Rattle.qsg_model.specs.declared.history.Item.TheVariants.{Unit as UnitOf}
use Rattle.qsg_group.specs.declared.tasks.Task.{Task}
use Rattle.qsg_group.specs.Group.{idle}
use Rattle.qsg_group.specs.Observers.{is_hardening}
use Rattle.qsg_group.specs.Tables.{at_member}
use Rattle.qsg_group.specs.Changes.{ended_seat, idle_tasks}
use Rattle.qsg_group.specs.Laws.{HasEnded}
use Rattle.qsg_group.proofs.Tables.{cases_member, change-same, change-other}
use Rattle.qsg_manager.specs.declared.managers.Manager.{Manager}
use Rattle.qsg_manager.specs.Groups.{seat_of}
use Rattle.qsg_manager.specs.Latches.{task_numbers, latch_of}
use Rattle.qsg_manager.specs.Seats.{with_down}
use Rattle.qsg_manager.specs.Storage.{task_in, manager_in, task_at}
use Rattle.qsg_manager.proofs.Grouping.{manager_same, manager_other}
use Rattle.qsg_crash.specs.Crashes.{unit_of, unit_at, latched_unit}
use Rattle.qsg_steady.specs.Steady.{written_by}
use Rattle.qsg_steady.proofs.Moving.{by_member}

-- ---- its storage

abbrev pub down : Manager → Manager
down x = record x { up = false; tasks = replicate 5 idle }

pub idle_in : (t : TaskNo) → task_in t (replicate 5 idle) ≡ idle
idle_in t = elim t as (λ w. task_in w (replicate 5 idle) ≡ idle) [
  | number.System ↦ refl
  | number.One ↦ refl
  | number.Two ↦ refl
  | number.Three ↦ refl
  | number.Four ↦ refl
]

pub down_here : (m : Member) (ms : List Manager) → member_number m ≤ length ms → manager_in m (with_down m ms) ≡ down (manager_in m ms)
down_here m ms within = manager_same m (down (manager_in m ms)) ms within

pub down_other : (m k : Member) (ms : List Manager) → (member_number k ≡ member_number m → ⊥) → manager_in k (with_down m ms) ≡ manager_in k ms
down_other m k ms differ = manager_other m k (down (manager_in m ms)) ms differ

pub down_length : (m : Member) (ms : List Manager) → length (with_down m ms) ≡ length ms
down_length m ms = length-set ms (member_number m - 1) (down (manager_in m ms))

-- what holds of idle tasks, and of those of the others, holds of all
pub down_tasks : (m : Member) (ms : List Manager) (P : Member → TaskNo → Task → Type 0) → member_number m ≤ length ms → ((t : TaskNo) → P m t idle) → ((k : Member) (t : TaskNo) → P k t (task_at k t ms)) → (k : Member) (t : TaskNo) → P k t (task_at k t (with_down m ms))
down_tasks m ms P within here all = by_member (λ k. (t : TaskNo) → P k t (task_at k t (with_down m ms))) m
    (λ t. subst (P m t) (sym (ap (λ (x : Manager). task_in t x.tasks) (down_here m ms within) ∙ idle_in t)) (here t))
    (λ k differ t. subst (P k t) (sym (ap (λ (x : Manager). task_in t x.tasks) (down_other m k ms differ))) (all k t))

-- ---- as the machine sees it

pub down_seats : (m : Member) (ms : List Manager) → member_number m ≤ length ms → (k : Member) → seat_of (manager_in k (with_down m ms)) ≡ at_member m ended_seat (λ j. seat_of (manager_in j ms)) k
down_seats m ms within k = elim (cases_member k m) [
  | inl same ↦ subst (λ j. seat_of (manager_in j (with_down m ms)) ≡ at_member m ended_seat (λ i. seat_of (manager_in i ms)) j) (sym same)
      (ap seat_of (down_here m ms within) ∙ sym (change-same member_number m ended_seat (λ j. seat_of (manager_in j ms))))
  | inr differ ↦ ap seat_of (down_other m k ms differ) ∙ sym (change-other member_number m ended_seat (λ j. seat_of (manager_in j ms)) k differ)
]

pub down_idles : (m : Member) (ms : List Manager) (tasks : Member → TaskNo → Task) → member_number m ≤ length ms → ((k : Member) → (member_number k ≡ member_number m → ⊥) → (t : TaskNo) → tasks k t ≡ task_at k t ms)
    → (k : Member) (t : TaskNo) → task_at k t (with_down m ms) ≡ at_member m idle_tasks tasks k t
down_idles m ms tasks within others k t = elim (cases_member k m) [
  | inl same ↦ subst (λ j. task_at j t (with_down m ms) ≡ at_member m idle_tasks tasks j t) (sym same)
      (ap (λ (x : Manager). task_in t x.tasks) (down_here m ms within) ∙ idle_in t ∙ sym (ap (λ (row : TaskNo → Task). row t) (change-same member_number m idle_tasks tasks)))
  | inr differ ↦ ap (λ (x : Manager). task_in t x.tasks) (down_other m k ms differ) ∙ sym (others k differ t) ∙ sym (ap (λ (row : TaskNo → Task). row t) (change-other member_number m idle_tasks tasks k differ))
]

-- all that had ended has ended still, and its last incarnation has
pub ended_down : (i : ℕ) (x : Manager) → HasEnded i (seat_of x) → HasEnded i (seat_of (down x))
ended_down i x ended = record { past = ended.past; down = λ is. refl }

-- ---- the unit that is committed

found_hardens : (p : TaskNo → Bool) (xs : List TaskNo) (w : TaskNo) → find p xs ≡ Some w → p w ≡ true
found_hardens p [] w found = absurd (none-some w found)
found_hardens p (x ∷ xs) w found = by (p x) refl found (found_hardens p xs w)
  where
    by : (b : Bool) → p x ≡ b → cond b (Some x) (find p xs) ≡ Some w → (find p xs ≡ Some w → p w ≡ true) → p w ≡ true
    by true is same rest = subst (λ y. p y ≡ true) (same_Some x w same) is
    by false is same rest = rest same

pub latched_one : (tasks : List Task) (t : TaskNo) (u : UnitName) → (task_in t tasks).unit ≡ Some u → is_some (latch_of tasks) ≡ true → ((w : TaskNo) → is_hardening (task_in w tasks).stage ≡ true → w ≡ t) → latched_unit tasks ≡ UnitOf u (task_in t tasks).ops ∷ []
latched_one tasks t u holds some only = by (latch_of tasks) refl some
  where
    by : (o : Option TaskNo) → latch_of tasks ≡ o → is_some o ≡ true → unit_at o tasks ≡ UnitOf u (task_in t tasks).ops ∷ []
    by None is found = absurd (true≢false (sym found))
    by (Some w) is found =
        let same = only w (found_hardens (λ v. is_hardening (task_in v tasks).stage) task_numbers w is) in
        ap (λ v. unit_of (task_in v tasks)) same ∙ ap (λ (o : Option UnitName). elim o as (λ x. List Item) [ None ↦ [] | Some v ↦ UnitOf v (task_in t tasks).ops ∷ [] ]) holds

unit_few : (task : Task) → length (unit_of task) ≤ 1
unit_few task = by task.unit
  where
    by : (o : Option UnitName) → length (elim o as (λ x. List Item) [ None ↦ [] | Some v ↦ UnitOf v task.ops ∷ [] ]) ≤ 1
    by None = omega arith
    by (Some u) = omega arith

pub latched_few : (x : Manager) → length (latched_unit x.tasks) ≤ written_by x
latched_few x = by (latch_of x.tasks)
  where
    by : (o : Option TaskNo) → length (unit_at o x.tasks) ≤ cond (is_some o) 1 0
    by None = omega arith
    by (Some w) = unit_few (task_in w x.tasks)
