-- what stands at each member once one is changed
use Rattle.std.proofs.Common.{◌≡◌, ◌+◌, ◌-◌, ◌<◌, ◌≤◌, List, [], ◌∷◌, length, Bool, true, false, Option, Some, None, refl, sym, ap, ◌∙◌, cond, arith, true≢false}
use Rattle.std.specs.Prelude.{find, is_some}
use Rattle.std.proofs.lemmas.List.{get_or-set_same, get_or-set_other}
use Rattle.std.proofs.lemmas.List.Sums.{sum_by-set, sum_by-cons}
use Rattle.qsg_num.specs.declared.seats.Member.{Member}
use Rattle.qsg_num.specs.declared.seats.Member.TheVariants as members
use Rattle.qsg_num.specs.declared.seats.TaskNo.{TaskNo}
use Rattle.qsg_num.specs.declared.seats.TaskNo.TheVariants as numbers
use Rattle.qsg_num.specs.Seats.{member_number, task_number}
use Rattle.qsg_logneed.specs.declared.counting.Filling.{Filling}
use Rattle.qsg_logneed.specs.Filled.{no_pages}
use Rattle.qsg_group.specs.declared.tasks.Task.{Task}
use Rattle.qsg_group.specs.Group.{idle}
use Rattle.qsg_group.specs.Observers.{is_hardening}
use Rattle.qsg_manager.specs.declared.managers.Manager.{Manager}
use Rattle.qsg_manager.specs.Latches.{task_numbers, latch_of}
use Rattle.qsg_manager.specs.Storage.{task_in, with_task_in, no_manager, manager_in, with_manager}
use Rattle.qsg_manager.proofs.Needs.{latch_free}
use Rattle.qsg_logs.specs.Kept.{KeptLog, no_log, log_in, with_log, filling_of, with_filling}
use Rattle.qsg_logs.specs.Held.{Sets}
use Rattle.qsg_steady.specs.Steady.{tasks_of, written_by, writing}

pub member_some : (m : Member) → 1 ≤ member_number m
member_some members.One = omega arith
member_some members.Two = omega arith
member_some members.Three = omega arith
member_some members.Four = omega arith
member_some members.Five = omega arith
member_some members.Six = omega arith
member_some members.Seven = omega arith
member_some members.Eight = omega arith

pub member_few : (m : Member) → member_number m ≤ 8
member_few members.One = omega arith
member_few members.Two = omega arith
member_few members.Three = omega arith
member_few members.Four = omega arith
member_few members.Five = omega arith
member_few members.Six = omega arith
member_few members.Seven = omega arith
member_few members.Eight = omega arith

pub task_few : (t : TaskNo) → task_number t < 5
task_few numbers.System = omega arith
task_few numbers.One = omega arith
task_few numbers.Two = omega arith
task_few numbers.Three = omega arith
task_few numbers.Four = omega arith

pub log_same : (m : Member) (y : KeptLog) (logs : List KeptLog) → member_number m ≤ length logs → log_in m (with_log m y logs) ≡ y
log_same m y logs within = let one = member_some m in get_or-set_same logs (member_number m - 1) y no_log (omega arith)

pub log_other : (m k : Member) (y : KeptLog) (logs : List KeptLog) → (member_number k ≡ member_number m → ⊥) → log_in k (with_log m y logs) ≡ log_in k logs
log_other m k y logs differ = let one = member_some m in let two = member_some k in get_or-set_other logs (member_number m - 1) (member_number k - 1) y no_log (λ e. differ (omega arith))

pub filling_other : (t w : TaskNo) (f : Filling) (log : KeptLog) → (task_number w ≡ task_number t → ⊥) → filling_of w (with_filling t f log) ≡ filling_of w log
filling_other t w f log differ = get_or-set_other log.fillings (task_number t) (task_number w) f no_pages differ

pub task_same : (t : TaskNo) (y : Task) (ts : List Task) → length ts ≡ 5 → task_in t (with_task_in t y ts) ≡ y
task_same t y ts five = let few = task_few t in get_or-set_same ts (task_number t) y idle (omega (arith, five))

pub task_other : (t j : TaskNo) (y : Task) (ts : List Task) → (task_number j ≡ task_number t → ⊥) → task_in j (with_task_in t y ts) ≡ task_in j ts
task_other t j y ts differ = get_or-set_other ts (task_number t) (task_number j) y idle differ

-- a manager with one task changed
pub task_sets : (t : TaskNo) (y : Task) (x : Manager) → length x.tasks ≡ 5 → Sets t y (tasks_of x) (tasks_of (record x { tasks = with_task_in t y x.tasks }))
task_sets t y x five = record { here = task_same t y x.tasks five; others = λ w differ. task_other t w y x.tasks differ }

-- ---- which members have a unit that is being written

pub latch_same : (old new : List Task) → ((t : TaskNo) → is_hardening (task_in t new).stage ≡ is_hardening (task_in t old).stage) → latch_of new ≡ latch_of old
latch_same old new same = λ i. find (λ t. same t i) task_numbers

pub latch_none : (tasks : List Task) → ((t : TaskNo) → is_hardening (task_in t tasks).stage ≡ false) → latch_of tasks ≡ None
latch_none tasks none = λ i. find (λ t. none t i) task_numbers

latch_by : (tasks : List Task) (t : TaskNo) (latch : Option TaskNo) → latch_of tasks ≡ latch → is_hardening (task_in t tasks).stage ≡ true → is_some latch ≡ true
latch_by tasks t None is hardens = absurd (true≢false (sym hardens ∙ latch_free tasks is t))
latch_by tasks t (Some w) is hardens = refl

pub latch_some : (tasks : List Task) (t : TaskNo) → is_hardening (task_in t tasks).stage ≡ true → is_some (latch_of tasks) ≡ true
latch_some tasks t hardens = latch_by tasks t (latch_of tasks) refl hardens

pub written_most : (x : Manager) → written_by x ≤ 1
written_most x = by (is_some (latch_of x.tasks))
  where
    by : (b : Bool) → cond b 1 0 ≤ 1
    by true = omega arith
    by false = omega arith

pub written_one : (x : Manager) → is_some (latch_of x.tasks) ≡ true → written_by x ≡ 1
written_one x is = ap (λ b. cond b 1 0) is

pub written_none : (x : Manager) → latch_of x.tasks ≡ None → written_by x ≡ 0
written_none x is = ap (λ l. cond (is_some l) 1 0) is

pub written_same : (x y : Manager) → latch_of y.tasks ≡ latch_of x.tasks → written_by y ≡ written_by x
written_same x y is = ap (λ l. cond (is_some l) 1 0) is

pub writing_with : (m : Member) (x : Manager) (ms : List Manager) → member_number m ≤ length ms → writing (with_manager m x ms) + written_by (manager_in m ms) ≡ writing ms + written_by x
writing_with m x ms within = let one = member_some m in sum_by-set written_by ms (member_number m - 1) x no_manager (omega arith)

pub writing_few : (ms : List Manager) → writing ms ≤ length ms
writing_few [] = omega arith
writing_few (x ∷ ms) = omega (arith, sum_by-cons written_by x ms, written_most x, writing_few ms)
