-- a member that is down keeps nothing of its tasks
use Rattle.std.proofs.Common.{◌≡◌, ℕ, zero, suc, ◌-◌, false, List, [], ◌∷◌, replicate, refl, ap, get_or}
use Rattle.std.specs.Prelude.{slice_set}
use Rattle.qsg_num.specs.declared.seats.Member.{Member}
use Rattle.qsg_num.specs.declared.seats.TaskNo.{TaskNo}
use Rattle.qsg_num.specs.Seats.{member_number}
use Rattle.qsg_group.specs.declared.tasks.Task.{Task}
use Rattle.qsg_group.specs.Group.{idle}
use Rattle.qsg_manager.specs.declared.managers.Manager.{Manager}
use Rattle.qsg_manager.specs.Seats.{with_down}
use Rattle.qsg_manager.specs.Storage.{manager_in, no_manager, with_task_in, with_task}

abbrev down : Manager → Manager
down manager = record manager { up = false; tasks = replicate 5 idle }

down_at : (xs : List Manager) (k : ℕ) (tasks : List Task) →
    slice_set (slice_set xs k (record (get_or xs k no_manager) { tasks = tasks })) k (down (get_or (slice_set xs k (record (get_or xs k no_manager) { tasks = tasks })) k no_manager)) ≡ slice_set xs k (down (get_or xs k no_manager))
down_at [] k tasks = refl
down_at (x ∷ xs) zero tasks = refl
down_at (x ∷ xs) (suc k) tasks = ap (λ (l : List Manager). x ∷ l) (down_at xs k tasks)

pub down_over : (m : Member) (t : TaskNo) (task : Task) (managers : List Manager) → with_down m (with_task m t task managers) ≡ with_down m managers
down_over m t task managers = down_at managers (member_number m - 1) (with_task_in t task (manager_in m managers).tasks)
