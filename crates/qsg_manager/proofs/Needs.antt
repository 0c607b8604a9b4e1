-- latches, pages that are needed, and tasks without names
use Rattle.std.proofs.Common.{◌≡◌, ℕ, zero, suc, ◌≤◌, Bool, true, false, cond, List, [], ◌∷◌, Option, Some, None, refl, sym, subst, inl, inr, arith}
use Rattle.std.specs.Prelude.{IfSome, find, nat_lt, slice_index_or}
use Rattle.std.specs.List.{AllByRecursion}
use Rattle.std.proofs.lemmas.Bool.Decides.{nat_tests}
use Rattle.qsg_num.specs.declared.seats.TaskNo.{TaskNo}
use Rattle.qsg_num.specs.declared.seats.TaskNo.TheVariants as number
use Rattle.qsg_num.specs.declared.seats.Member.{Member}
use Rattle.qsg_num.specs.declared.ids.PageNo.{PageNo}
use Rattle.qsg_num.specs.declared.ids.UnitName.{UnitName}
use Rattle.qsg_num.specs.Seats.{task_number}
use Rattle.qsg_group.specs.declared.tasks.Stage.{Stage}
use Rattle.qsg_group.specs.declared.tasks.Stage.TheVariants.{Open, Hardening, Committed, BackedOut}
use Rattle.qsg_group.specs.declared.tasks.Task.{Task}
use Rattle.qsg_group.specs.Group.{Group, idle}
use Rattle.qsg_group.specs.Observers.{is_hardening}
use Rattle.qsg_group.specs.Tables.{at_member, at_task}
use Rattle.qsg_group.specs.Changes.{IsNeededFrom, idle_tasks, open_task, Change}
use Rattle.qsg_group.specs.Changes.Change.{Draws, Puts, Gets, Ungets, Begins, Hardens, BacksOut, Settles, Finishes, Crashes, Stops}
use Rattle.qsg_group.proofs.Tables.{cases_at, every_member}
use Rattle.qsg_manager.specs.Storage.{task_in}
use Rattle.qsg_manager.specs.Latches.{task_numbers, latch_of, needed_by, earlier, first_needed}
use Rattle.qsg_manager.specs.Actions.{AreNamed}

-- ---- the latch

none_of : (p : TaskNo → Bool) (x : TaskNo) (xs : List TaskNo) → find p (x ∷ xs) ≡ None → (p x ≡ false) × (find p xs ≡ None)
none_of p x xs none = by (p x) none
  where
    by : (b : Bool) → cond b (Some x) (find p xs) ≡ None → (b ≡ false) × (find p xs ≡ None)
    by true is = absurd cc
    by false is = (refl, is)

all_none : (p : TaskNo → Bool) (xs : List TaskNo) → find p xs ≡ None → AllByRecursion (λ (x : TaskNo). p x ≡ false) xs
all_none p [] none = tt
all_none p (x ∷ xs) none = let h = none_of p x xs none in (h.0, all_none p xs h.1)

pub latch_free : (tasks : List Task) → latch_of tasks ≡ None → (w : TaskNo) → is_hardening (task_in w tasks).stage ≡ false
latch_free tasks none w = by w (all_none (λ t. is_hardening (task_in t tasks).stage) task_numbers none)
  where
    by : (w : TaskNo) → AllByRecursion (λ (t : TaskNo). is_hardening (task_in t tasks).stage ≡ false) task_numbers → is_hardening (task_in w tasks).stage ≡ false
    by number.System all = all.0
    by number.One all = all.1.0
    by number.Two all = all.1.1.0
    by number.Three all = all.1.1.1.0
    by number.Four all = all.1.1.1.1.0

-- ---- pages that are needed

abbrev IsBelow : ℕ → Option PageNo → Type 0
IsBelow page o = IfSome o (λ (first : PageNo). page ≤ first.number)

below_both : (page : ℕ) (a b : Option PageNo) → IsBelow page (earlier a b) → IsBelow page a × IsBelow page b
below_both page None b below = (tt, below)
below_both page (Some x) None below = (below, tt)
below_both page (Some x) (Some y) below = by (nat_lt y.number x.number) refl below
  where
    by : (b : Bool) → nat_lt y.number x.number ≡ b → IsBelow page (cond b (Some y) (Some x)) → (page ≤ x.number) × (page ≤ y.number)
    by true is h = grind (arith, nat_tests)
    by false is h = grind (arith, nat_tests)

stage_needed : (page : ℕ) (stage : Stage) → IsBelow page (needed_by stage) → IsNeededFrom page stage
stage_needed page Open below = tt
stage_needed page (Hardening first) below = below
stage_needed page (Committed first settled) below = below
stage_needed page (BackedOut settled) below = tt

all_needed : (page : ℕ) (tasks : List Task) → IsBelow page (first_needed tasks) → AllByRecursion (λ (task : Task). IsNeededFrom page task.stage) tasks
all_needed page [] below = tt
all_needed page (task ∷ tasks) below =
    let h = below_both page (needed_by task.stage) (first_needed tasks) below in
    (stage_needed page task.stage h.0, all_needed page tasks h.1)

all_at : (P : Task → Type 0) (tasks : List Task) (i : ℕ) → AllByRecursion P tasks → P idle → P (slice_index_or tasks i idle)
all_at P [] i all none = none
all_at P (task ∷ tasks) zero all none = all.0
all_at P (task ∷ tasks) (suc i) all none = all_at P tasks i all.1 none

pub needed_of_all : (page : ℕ) (tasks : List Task) → IfSome (first_needed tasks) (λ (first : PageNo). page ≤ first.number) → (t : TaskNo) → IsNeededFrom page (task_in t tasks).stage
needed_of_all page tasks below t = all_at (λ task. IsNeededFrom page task.stage) tasks (task_number t) (all_needed page tasks below) tt

-- ---- a task without a name is idle

abbrev IsNamed : Task → Type 0
IsNamed task = task.unit ≡ None → task ≡ idle

named_at : (m : Member) (t : TaskNo) (y : Task) (tasks : Member → TaskNo → Task) → IsNamed y → AreNamed tasks → AreNamed (at_task m t (λ task. y) tasks)
named_at m t y tasks new all k j = elim (cases_at m t (λ task. y) tasks k j) [
  | inl here ↦ subst IsNamed (sym here.2) new
  | inr other ↦ subst IsNamed (sym other.1) (all k j)
]

named_gone : (m : Member) (tasks : Member → TaskNo → Task) → AreNamed tasks → AreNamed (at_member m idle_tasks tasks)
named_gone m tasks all = every_member (λ k row. (j : TaskNo) → IsNamed (row j)) m idle_tasks tasks (λ j none. refl) (λ k differ j. all k j)

has_name : (task : Task) (u : UnitName) → task.unit ≡ Some u → IsNamed task
has_name task u is none = absurd cc

pub named_stays : (g h : Group) → Change g h → AreNamed g.tasks → AreNamed h.tasks
named_stays g _ (Draws _ u t may) all = named_at u.member t (open_task u [] []) g.tasks (has_name (open_task u [] []) u refl) all
named_stays g _ (Puts _ u t ops claims s m outside may) all = named_at u.member t _ g.tasks (has_name _ u refl) all
named_stays g _ (Gets _ u t ops claims s m outside may) all = named_at u.member t _ g.tasks (has_name _ u refl) all
named_stays g _ (Ungets _ u t ops claims c may) all = named_at u.member t _ g.tasks (has_name _ u refl) all
named_stays g _ (Begins _ u t ops claims may) all = named_at u.member t _ g.tasks (has_name _ u refl) all
named_stays g _ (Hardens _ u t ops claims first next may) all = named_at u.member t _ g.tasks (has_name _ u refl) all
named_stays g _ (BacksOut _ u t ops claims may) all = named_at u.member t _ g.tasks (has_name _ u refl) all
named_stays g _ (Settles _ u t claims first n c may) all = named_at u.member t _ g.tasks (has_name _ u refl) all
named_stays g _ (Finishes _ u t claims first n may) all = named_at u.member t idle g.tasks (λ none. refl) all
named_stays g _ (Crashes _ m may) all = named_gone m g.tasks all
named_stays g _ (Stops _ m may) all = named_gone m g.tasks all
named_stays g _ _ all = all
