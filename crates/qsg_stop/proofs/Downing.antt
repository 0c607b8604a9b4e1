-- a member that goes down, as the machine sees it
use Rattle.std.proofs.Common.{◌≡◌, ◌≤◌, List, length, replicate, refl, sym, ap, subst, ◌∙◌, inl, inr, false}
use Rattle.qsg_num.specs.declared.seats.Member.{Member}
use Rattle.qsg_num.specs.declared.seats.TaskNo.{TaskNo}
use Rattle.qsg_num.specs.declared.seats.TaskNo.TheVariants as number
use Rattle.qsg_num.specs.Seats.{member_number}
use Rattle.qsg_group.specs.declared.tasks.Task.{Task}
use Rattle.qsg_group.specs.Group.{idle}
use Rattle.qsg_group.specs.Tables.{at_member}
use Rattle.qsg_group.specs.Changes.{ended_seat, idle_tasks, stopped, Change}
use Rattle.qsg_group.specs.Changes.Change.{Stops}
use Rattle.qsg_group.proofs.Tables.{cases_member, change-same, change-other}
use Rattle.qsg_manager.specs.declared.managers.Manager.{Manager}
use Rattle.qsg_manager.specs.Groups.{seat_of, Rest}
use Rattle.qsg_manager.specs.Seats.{with_down}
use Rattle.qsg_manager.specs.Storage.{task_in, manager_in, task_at}
use Rattle.qsg_manager.proofs.Grouping.{manager_same, manager_other}
use Rattle.qsg_parts.specs.Owned.{Owned}
use Rattle.qsg_stop.specs.Steps.{begun}
use Rattle.qsg_stop.specs.Machine.{group_in, MayBeginStop}

abbrev pub down : Manager → Manager
down x = record x { up = false; tasks = replicate 5 idle }

idle_in : (t : TaskNo) → task_in t (replicate 5 idle) ≡ idle
idle_in number.System = refl
idle_in number.One = refl
idle_in number.Two = refl
idle_in number.Three = refl
idle_in number.Four = refl

pub down_here : (m : Member) (ms : List Manager) → member_number m ≤ length ms → manager_in m (with_down m ms) ≡ down (manager_in m ms)
down_here m ms within = manager_same m (down (manager_in m ms)) ms within

pub down_other : (m k : Member) (ms : List Manager) → (member_number k ≡ member_number m → ⊥) → manager_in k (with_down m ms) ≡ manager_in k ms
down_other m k ms differ = manager_other m k (down (manager_in m ms)) ms differ

down_seats : (m : Member) (ms : List Manager) → member_number m ≤ length ms → (k : Member) → seat_of (manager_in k (with_down m ms)) ≡ at_member m ended_seat (λ j. seat_of (manager_in j ms)) k
down_seats m ms within k = elim (cases_member k m) [
  | inl same ↦ subst (λ j. seat_of (manager_in j (with_down m ms)) ≡ at_member m ended_seat (λ i. seat_of (manager_in i ms)) j) (sym same)
      (ap seat_of (down_here m ms within) ∙ sym (change-same member_number m ended_seat (λ j. seat_of (manager_in j ms))))
  | inr differ ↦ ap seat_of (down_other m k ms differ) ∙ sym (change-other member_number m ended_seat (λ j. seat_of (manager_in j ms)) k differ)
]

down_tasks : (m : Member) (ms : List Manager) → member_number m ≤ length ms → (k : Member) (t : TaskNo) → task_at k t (with_down m ms) ≡ at_member m idle_tasks (λ j w. task_at j w ms) k t
down_tasks m ms within k t = elim (cases_member k m) [
  | inl same ↦ subst (λ j. task_at j t (with_down m ms) ≡ at_member m idle_tasks (λ i w. task_at i w ms) j t) (sym same)
      (ap (λ (x : Manager). task_in t x.tasks) (down_here m ms within) ∙ idle_in t ∙ sym (ap (λ (row : TaskNo → Task). row t) (change-same member_number m idle_tasks (λ j w. task_at j w ms))))
  | inr differ ↦ ap (λ (x : Manager). task_in t x.tasks) (down_other m k ms differ) ∙ sym (ap (λ (row : TaskNo → Task). row t) (change-other member_number m idle_tasks (λ j w. task_at j w ms) k differ))
]

same_group : (rest : Rest) (m : Member) (p : Owned) → member_number m ≤ length p.managers → group_in rest (begun m p) ≡ stopped (group_in rest p) m
same_group rest m p within = λ i. record (group_in rest p) { seats = λ k. down_seats m p.managers within k i; tasks = λ k t. down_tasks m p.managers within k t i }

pub begun_stops : (rest : Rest) (m : Member) (p : Owned) → MayBeginStop m p → Change (group_in rest p) (group_in rest (begun m p))
begun_stops rest m p may = subst (Change (group_in rest p)) (sym (same_group rest m p may.member)) (Stops (group_in rest p) m (record { up = may.up; unused = λ u t own holds. may.unused u t holds }))
