-- a task that was taken out of its member's storage and put back
use Rattle.std.proofs.Common.{◌≡◌, ◌-◌, ◌≤◌, List, length, Option, Some, None, Result, Ok, Err, ap, ◌∙◌, set-set}
use Rattle.std.proofs.lemmas.List.{set-get_or}
use Rattle.std.specs.Prelude.{OnOk, OnErr}
use Rattle.qsg_num.specs.declared.seats.Member.{Member}
use Rattle.qsg_num.specs.declared.seats.TaskNo.{TaskNo}
use Rattle.qsg_num.specs.Seats.{member_number, task_number}
use Rattle.qsg_lists.specs.declared.parts.Connection.{Connection}
use Rattle.qsg_lists.specs.declared.parts.Entry.{Entry}
use Rattle.qsg_group.specs.declared.tasks.Task.{Task}
use Rattle.qsg_group.specs.Group.{idle}
use Rattle.qsg_manager.specs.declared.managers.Manager.{Manager}
use Rattle.qsg_manager.specs.Storage.{with_task_in, no_manager, manager_in, task_at, with_manager, with_task}
use Rattle.qsg_manager.specs.Getting.{with_get, with_found}
use Rattle.qsg_manager.proofs.Grouping.{manager_same}

pub set_again : (m : Member) (t : TaskNo) (x y : Task) (ms : List Manager) → member_number m ≤ length ms → with_task m t y (with_task m t x ms) ≡ with_task m t y ms
set_again m t x y ms within =
    ap (λ (z : Manager). with_manager m (record z { tasks = with_task_in t y z.tasks }) (with_task m t x ms)) (manager_same m (record (manager_in m ms) { tasks = with_task_in t x (manager_in m ms).tasks }) ms within)
    ∙ set-set ms (member_number m - 1) (record (manager_in m ms) { tasks = with_task_in t x (manager_in m ms).tasks }) (record (manager_in m ms) { tasks = with_task_in t y (with_task_in t x (manager_in m ms).tasks) })
    ∙ ap (λ (ts : List Task). with_manager m (record (manager_in m ms) { tasks = ts }) ms) (set-set (manager_in m ms).tasks (task_number t) x y)

set_own : (m : Member) (t : TaskNo) (ms : List Manager) → with_task m t (task_at m t ms) ms ≡ ms
set_own m t ms =
    ap (λ (ts : List Task). with_manager m (record (manager_in m ms) { tasks = ts }) ms) (set-get_or (manager_in m ms).tasks (task_number t) idle)
    ∙ set-get_or ms (member_number m - 1) no_manager

-- what was made of it stands in its place
pub stored : (m : Member) (t : TaskNo) (x y z : Task) (before mid after : List Manager) → member_number m ≤ length before
    → mid ≡ with_task m t x before → after ≡ with_task m t y mid → y ≡ z → after ≡ with_task m t z before
stored m t x y z before mid after within out back is =
    back ∙ ap (with_task m t y) out ∙ set_again m t x y before within ∙ ap (λ task. with_task m t task before) is

pub stored_on_ok : {T E : Type 0} (r : Result T E) (m : Member) (t : TaskNo) (x y z : Task) (before mid after : List Manager) → member_number m ≤ length before
    → mid ≡ with_task m t x before → after ≡ with_task m t y mid → OnOk r (y ≡ z) → OnOk r (after ≡ with_task m t z before)
stored_on_ok (Ok a) m t x y z before mid after within out back is = stored m t x y z before mid after within out back is
stored_on_ok (Err e) m t x y z before mid after within out back is = tt

-- as it was, the storage is as it was
pub stays_on_err : {T E : Type 0} (r : Result T E) (m : Member) (t : TaskNo) (x y : Task) (before mid after : List Manager) → member_number m ≤ length before
    → mid ≡ with_task m t x before → after ≡ with_task m t y mid → OnErr r (y ≡ task_at m t before) → OnErr r (after ≡ before)
stays_on_err (Ok a) m t x y before mid after within out back is = tt
stays_on_err (Err e) m t x y before mid after within out back is = stored m t x y (task_at m t before) before mid after within out back is ∙ set_own m t before

-- a get of none leaves the storage as it was
pub found_stored : {T E : Type 0} (r : Result T E) (m : Member) (t : TaskNo) (c : Connection) (found : Option Entry) (x y : Task) (before mid after : List Manager) → member_number m ≤ length before
    → mid ≡ with_task m t x before → after ≡ with_task m t y mid → OnOk r (y ≡ with_get c found (task_at m t before)) → OnOk r (after ≡ with_found m t c found before)
found_stored (Err e) m t c found x y before mid after within out back is = tt
found_stored (Ok a) m t c None x y before mid after within out back is = stored m t x y (task_at m t before) before mid after within out back is ∙ set_own m t before
found_stored (Ok a) m t c (Some e) x y before mid after within out back is = stored m t x y (with_get c (Some e) (task_at m t before)) before mid after within out back is
