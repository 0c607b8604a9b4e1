-- what becomes of a task's unit
use Rattle.std.specs.Prelude.{◌-◌, [], List, length, take}
use Rattle.qsg_num.specs.declared.seats.Member.{Member}
use Rattle.qsg_num.specs.declared.seats.TaskNo.{TaskNo}
use Rattle.qsg_group.specs.declared.tasks.Stage.{Stage}
use Rattle.qsg_group.specs.declared.tasks.Stage.TheVariants.{Open, Hardening, Committed, BackedOut}
use Rattle.qsg_group.specs.declared.tasks.Task.{Task}
use Rattle.qsg_group.specs.Group.{idle}
use Rattle.qsg_group.specs.Changes.{open_task}
use Rattle.qsg_manager.specs.declared.managers.Manager.{Manager}
use Rattle.qsg_manager.specs.Storage.{task_at, with_task, next_name, with_drawn}

-- a task that has drawn its member's next name, for a unit without operations
abbrev pub with_name : Member → TaskNo → List Manager → List Manager
with_name m t managers = with_task m t (open_task (next_name m managers) [] []) (with_drawn m managers)

-- a task whose unit has come to another stage
abbrev pub with_stage : Member → TaskNo → Stage → List Manager → List Manager
with_stage m t stage managers = with_task m t (record (task_at m t managers) { stage = stage }) managers

-- a task whose unit is decided: only its marks are left
abbrev pub decided : Stage → Task → Task
decided stage task = record task { ops = []; stage = stage }

-- the stage of a unit once its run is safe
abbrev pub safe_stage : Stage → Stage
safe_stage Open = Open
safe_stage (Hardening first) = Committed first 0
safe_stage (Committed first settled) = Committed first settled
safe_stage (BackedOut settled) = BackedOut settled

abbrev pub with_hardened : Member → TaskNo → List Manager → List Manager
with_hardened m t managers = with_task m t (decided (safe_stage (task_at m t managers).stage) (task_at m t managers)) managers

abbrev pub with_backed_out : Member → TaskNo → List Manager → List Manager
with_backed_out m t managers = with_task m t (decided (BackedOut 0) (task_at m t managers)) managers

-- a list without its last element
abbrev pub front : {X : Type 0} → List X → List X
front xs = take (length xs - 1) xs

-- a task without its unit's last operation, and without that operation's claim
abbrev pub without_last : Task → Task
without_last task = record task { ops = front task.ops; claims = front task.claims }

abbrev pub with_dropped : Member → TaskNo → List Manager → List Manager
with_dropped m t managers = with_task m t (without_last (task_at m t managers)) managers

-- a task that holds nothing any more
abbrev pub with_idle : Member → TaskNo → List Manager → List Manager
with_idle m t managers = with_task m t idle managers
