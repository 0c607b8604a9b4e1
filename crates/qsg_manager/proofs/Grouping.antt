-- what a change of structures or of managers is in the machine
use Rattle.std.proofs.Common.{◌≡◌, ◌-◌, ◌<◌, ◌≤◌, List, length, sym, ap, subst, ◌∙◌, inl, inr, arith}
use Rattle.std.proofs.lemmas.List.{get_or-set_same, get_or-set_other}
use Rattle.qsg_num.specs.declared.seats.Member.{Member}
use Rattle.qsg_num.specs.declared.seats.Member.TheVariants as members
use Rattle.qsg_num.specs.declared.seats.StructNo.{StructNo}
use Rattle.qsg_num.specs.declared.seats.StructNo.TheVariants as structures
use Rattle.qsg_num.specs.declared.seats.TaskNo.{TaskNo}
use Rattle.qsg_num.specs.declared.seats.TaskNo.TheVariants as numbers
use Rattle.qsg_num.specs.Seats.{member_number, structure_number, task_number}
use Rattle.qsg_lists.specs.Structures.{ListStructure}
use Rattle.qsg_group.specs.declared.tasks.Task.{Task}
use Rattle.qsg_group.specs.Tables.{at_structure, at_task}
use Rattle.qsg_group.specs.Group.{Shelf, idle}
use Rattle.qsg_group.proofs.Tables.{change-same, change-other, cases_structure, cases_member, cases_task, cases_at}
use Rattle.qsg_manager.specs.declared.managers.Manager.{Manager}
use Rattle.qsg_manager.specs.Views.{Outside, shelf_of}
use Rattle.qsg_manager.specs.Facilities.{structure_in, with_structure, no_structure}
use Rattle.qsg_manager.specs.Storage.{task_in, with_task_in, no_manager, manager_in, task_at, with_manager, with_task}
use Rattle.qsg_manager.specs.Groups.{seat_of, Rest, group_of}

-- ---- numbers begin at 1

structure_some : (s : StructNo) → 1 ≤ structure_number s
structure_some structures.One = omega arith
structure_some structures.Two = omega arith
structure_some structures.Three = omega arith
structure_some structures.Four = omega arith

member_some : (m : Member) → 1 ≤ member_number m
member_some members.One = omega arith
member_some members.Two = omega arith
member_some members.Three = omega arith
member_some members.Four = omega arith
member_some members.Five = omega arith
member_some members.Six = omega arith
member_some members.Seven = omega arith
member_some members.Eight = omega arith

task_few : (t : TaskNo) → task_number t < 5
task_few numbers.System = omega arith
task_few numbers.One = omega arith
task_few numbers.Two = omega arith
task_few numbers.Three = omega arith
task_few numbers.Four = omega arith

-- ---- structures

pub structure_same : (s : StructNo) (y : ListStructure) (ls : List ListStructure) → structure_number s ≤ length ls → structure_in s (with_structure s y ls) ≡ y
structure_same s y ls within = let one = structure_some s in get_or-set_same ls (structure_number s - 1) y no_structure (omega arith)

pub structure_other : (s x : StructNo) (y : ListStructure) (ls : List ListStructure) → (structure_number x ≡ structure_number s → ⊥) → structure_in x (with_structure s y ls) ≡ structure_in x ls
structure_other s x y ls differ = let one = structure_some s in let two = structure_some x in get_or-set_other ls (structure_number s - 1) (structure_number x - 1) y no_structure (λ e. differ (omega arith))

pub shelves_with : (o : Outside) (s : StructNo) (y : ListStructure) (ls : List ListStructure) (f : Shelf → Shelf) → structure_number s ≤ length ls → shelf_of o s y ≡ f (shelf_of o s (structure_in s ls))
    → (x : StructNo) → shelf_of o x (structure_in x (with_structure s y ls)) ≡ at_structure s f (λ z. shelf_of o z (structure_in z ls)) x
shelves_with o s y ls f within made x = elim (cases_structure x s) [
  | inl same ↦ subst (λ z. shelf_of o z (structure_in z (with_structure s y ls)) ≡ at_structure s f (λ w. shelf_of o w (structure_in w ls)) z) (sym same)
      (ap (shelf_of o s) (structure_same s y ls within) ∙ made ∙ sym (change-same structure_number s f (λ w. shelf_of o w (structure_in w ls))))
  | inr differ ↦ ap (shelf_of o x) (structure_other s x y ls differ) ∙ sym (change-other structure_number s f (λ w. shelf_of o w (structure_in w ls)) x differ)
]

-- ---- managers

pub manager_same : (m : Member) (y : Manager) (ms : List Manager) → member_number m ≤ length ms → manager_in m (with_manager m y ms) ≡ y
manager_same m y ms within = let one = member_some m in get_or-set_same ms (member_number m - 1) y no_manager (omega arith)

pub manager_other : (m k : Member) (y : Manager) (ms : List Manager) → (member_number k ≡ member_number m → ⊥) → manager_in k (with_manager m y ms) ≡ manager_in k ms
manager_other m k y ms differ = let one = member_some m in let two = member_some k in get_or-set_other ms (member_number m - 1) (member_number k - 1) y no_manager (λ e. differ (omega arith))

task_same : (t : TaskNo) (y : Task) (ts : List Task) → length ts ≡ 5 → task_in t (with_task_in t y ts) ≡ y
task_same t y ts five = let few = task_few t in get_or-set_same ts (task_number t) y idle (omega (arith, five))

task_other : (t j : TaskNo) (y : Task) (ts : List Task) → (task_number j ≡ task_number t → ⊥) → task_in j (with_task_in t y ts) ≡ task_in j ts
task_other t j y ts differ = get_or-set_other ts (task_number t) (task_number j) y idle differ

pub tasks_with : (m : Member) (t : TaskNo) (y : Task) (ms : List Manager) → member_number m ≤ length ms → length (manager_in m ms).tasks ≡ 5
    → (k : Member) (j : TaskNo) → task_at k j (with_task m t y ms) ≡ at_task m t (λ old. y) (λ a b. task_at a b ms) k j
tasks_with m t y ms within five k j = elim (cases_at m t (λ old. y) (λ a b. task_at a b ms) k j) [
  | inl here ↦
      subst (λ a. task_at a j (with_task m t y ms) ≡ y) (sym here.0) (subst (λ b. task_at m b (with_task m t y ms) ≡ y) (sym here.1)
      (ap (λ (x : Manager). task_in t x.tasks) (manager_same m (record (manager_in m ms) { tasks = with_task_in t y (manager_in m ms).tasks }) ms within) ∙ task_same t y (manager_in m ms).tasks five))
      ∙ sym here.2
  | inr other ↦ elim (cases_member k m) [
    | inl same ↦ elim (cases_task j t) [
      | inl also ↦ absurd (other.0 same also)
      | inr differ ↦
          subst (λ a. task_at a j (with_task m t y ms) ≡ task_at a j ms) (sym same)
          (ap (λ (x : Manager). task_in j x.tasks) (manager_same m (record (manager_in m ms) { tasks = with_task_in t y (manager_in m ms).tasks }) ms within) ∙ task_other t j y (manager_in m ms).tasks differ)
          ∙ sym other.1
    ]
    | inr differ ↦ ap (λ (x : Manager). task_in j x.tasks) (manager_other m k (record (manager_in m ms) { tasks = with_task_in t y (manager_in m ms).tasks }) ms differ) ∙ sym other.1
  ]
]

pub seats_with : (m : Member) (t : TaskNo) (y : Task) (ms : List Manager) → member_number m ≤ length ms → (k : Member) → seat_of (manager_in k (with_task m t y ms)) ≡ seat_of (manager_in k ms)
seats_with m t y ms within k = elim (cases_member k m) [
  | inl same ↦ subst (λ a. seat_of (manager_in a (with_task m t y ms)) ≡ seat_of (manager_in a ms)) (sym same)
      (ap seat_of (manager_same m (record (manager_in m ms) { tasks = with_task_in t y (manager_in m ms).tasks }) ms within))
  | inr differ ↦ ap seat_of (manager_other m k (record (manager_in m ms) { tasks = with_task_in t y (manager_in m ms).tasks }) ms differ)
]

-- ---- a task changed alone

pub task_changed : (rest : Rest) (ls : List ListStructure) (ms : List Manager) (m : Member) (t : TaskNo) (y : Task) → member_number m ≤ length ms → length (manager_in m ms).tasks ≡ 5
    → group_of rest ls (with_task m t y ms) ≡ record (group_of rest ls ms) { tasks = at_task m t (λ old. y) (group_of rest ls ms).tasks }
task_changed rest ls ms m t y within five = λ i. record {
  shelves = λ s. shelf_of rest.outside s (structure_in s ls);
  logs = rest.logs;
  seats = λ k. seats_with m t y ms within k i;
  failed = rest.failed;
  tasks = λ k j. tasks_with m t y ms within five k j i;
  tops = rest.tops;
  history = rest.history;
}

-- ---- a structure changed alone

pub structure_changed : (rest : Rest) (ls : List ListStructure) (ms : List Manager) (s : StructNo) (structure : ListStructure) (f : Shelf → Shelf)
    → structure_number s ≤ length ls → shelf_of rest.outside s structure ≡ f (shelf_of rest.outside s (structure_in s ls))
    → group_of rest (with_structure s structure ls) ms ≡ record (group_of rest ls ms) { shelves = at_structure s f (group_of rest ls ms).shelves }
structure_changed rest ls ms s structure f within made = λ i. record {
  shelves = λ x. shelves_with rest.outside s structure ls f within made x i;
  logs = rest.logs;
  seats = λ k. seat_of (manager_in k ms);
  failed = rest.failed;
  tasks = λ k j. task_at k j ms;
  tops = rest.tops;
  history = rest.history;
}

-- a task and a structure changed
pub both_changed : (rest : Rest) (ls : List ListStructure) (ms : List Manager) (s : StructNo) (structure : ListStructure) (f : Shelf → Shelf) (m : Member) (t : TaskNo) (y : Task)
    → structure_number s ≤ length ls → shelf_of rest.outside s structure ≡ f (shelf_of rest.outside s (structure_in s ls)) → member_number m ≤ length ms → length (manager_in m ms).tasks ≡ 5
    → group_of rest (with_structure s structure ls) (with_task m t y ms) ≡ record (group_of rest ls ms) { shelves = at_structure s f (group_of rest ls ms).shelves; tasks = at_task m t (λ old. y) (group_of rest ls ms).tasks }
both_changed rest ls ms s structure f m t y in_structures made in_managers five = λ i. record {
  shelves = λ x. shelves_with rest.outside s structure ls f in_structures made x i;
  logs = rest.logs;
  seats = λ k. seats_with m t y ms in_managers k i;
  failed = rest.failed;
  tasks = λ k j. tasks_with m t y ms in_managers five k j i;
  tops = rest.tops;
  history = rest.history;
}
