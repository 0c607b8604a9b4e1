-- what members keep, by the numbers of members and tasks
use Rattle.std.specs.Prelude.{◌+◌, ◌-◌, false, List, [], slice_index_or, slice_set}
use Rattle.qsg_num.specs.declared.seats.Member.{Member}
use Rattle.qsg_num.specs.declared.seats.TaskNo.{TaskNo}
use Rattle.qsg_num.specs.declared.ids.UnitName.{UnitName}
use Rattle.qsg_num.specs.Seats.{member_number, task_number}
use Rattle.qsg_group.specs.declared.tasks.Task.{Task}
use Rattle.qsg_group.specs.Group.{idle}
use Rattle.qsg_manager.specs.declared.managers.Manager.{Manager}

abbrev pub task_in : TaskNo → List Task → Task
task_in t tasks = slice_index_or tasks (task_number t) idle

abbrev pub with_task_in : TaskNo → Task → List Task → List Task
with_task_in t task tasks = slice_set tasks (task_number t) task

-- what stands at a number that no member has: one that never came up
abbrev pub no_manager : Manager
no_manager = record { up = false; incarnation = record { number = 0 }; next = 1; tasks = [] }

abbrev pub manager_in : Member → List Manager → Manager
manager_in m managers = slice_index_or managers (member_number m - 1) no_manager

abbrev pub task_at : Member → TaskNo → List Manager → Task
task_at m t managers = task_in t (manager_in m managers).tasks

abbrev pub with_manager : Member → Manager → List Manager → List Manager
with_manager m manager managers = slice_set managers (member_number m - 1) manager

abbrev pub with_task : Member → TaskNo → Task → List Manager → List Manager
with_task m t task managers = with_manager m (record (manager_in m managers) { tasks = with_task_in t task (manager_in m managers).tasks }) managers

-- the name that the next unit of a member gets, and the member after it was drawn
abbrev pub next_name : Member → List Manager → UnitName
next_name m managers = record { member = m; incarnation = (manager_in m managers).incarnation; seq = (manager_in m managers).next }

abbrev pub with_drawn : Member → List Manager → List Manager
with_drawn m managers = with_manager m (record (manager_in m managers) { next = (manager_in m managers).next + 1 }) managers
