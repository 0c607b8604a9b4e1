-- the parts of a group as the machines see them
use Rattle.std.specs.Prelude.{◌≡◌, ◌≤◌, true, length, Some, []}
use Rattle.qsg_num.specs.declared.seats.Member.{Member}
use Rattle.qsg_num.specs.declared.seats.TaskNo.{TaskNo}
use Rattle.qsg_num.specs.declared.ids.UnitName.{UnitName}
use Rattle.qsg_num.specs.Seats.{member_number}
use Rattle.qsg_group.specs.Group.{Group}
use Rattle.qsg_group.specs.Changes.{open_task}
use Rattle.qsg_manager.specs.Groups.{Rest, group_of}
use Rattle.qsg_manager.specs.Storage.{manager_in, task_at}
use Rattle.qsg_parts.specs.Owned.{Owned}

-- the machine's group, with what it has besides structures and members
abbrev pub group_in : Rest → Owned → Group
group_in rest p = group_of rest p.structures p.managers

-- the member is up, and no unit of it has an operation
pub record MayBeginStop (m : Member) (p : Owned) : Type 0 where
  pub member : member_number m ≤ length p.managers
  pub up : (manager_in m p.managers).up ≡ true
  pub unused : (u : UnitName) (t : TaskNo) → (task_at m t p.managers).unit ≡ Some u → task_at m t p.managers ≡ open_task u [] []
