-- when a step of a get is a change of the machine
use Rattle.std.specs.Prelude.{true, ◌≡◌, ◌≤◌, None, length, ◌⊎◌}
use Rattle.qsg_num.specs.declared.seats.Member.{Member}
use Rattle.qsg_num.specs.declared.seats.TaskNo.{TaskNo}
use Rattle.qsg_num.specs.declared.ids.UnitName.{UnitName}
use Rattle.qsg_num.specs.Seats.{structure_number}
use Rattle.qsg_lists.specs.Entries.{AreInOrder}
use Rattle.qsg_group.specs.Group.{Group, idle}
use Rattle.qsg_group.specs.Changes.{open_task, Change}
use Rattle.qsg_manager.specs.Facilities.{structure_in}
use Rattle.qsg_manager.specs.Storage.{manager_in, task_at}
use Rattle.qsg_manager.specs.Groups.{Rest, group_of}
use Rattle.qsg_manager.specs.Actions.{IsMember}
use Rattle.qsg_parts.specs.Owned.{Owned}
use Rattle.qsg_get.specs.declared.checking.Terms.{Terms}
use Rattle.qsg_get.specs.declared.phases.Phase.{Phase}
use Rattle.qsg_get.specs.declared.phases.Phase.TheVariants.{Check, Connect, Take}
use Rattle.qsg_get.specs.Works.{Work}

-- the machine's group is as it was, or one action changed it
abbrev pub MovesTo : Group → Group → Type 0
MovesTo g h = (h ≡ g) ⊎ Change g h

-- the group that the machine sees in parts
abbrev pub seen : Rest → Owned → Group
seen rest p = group_of rest p.structures p.managers

-- the member is up, and a task of it without a name holds nothing
pub record MayDrawAt (m : Member) (t : TaskNo) (p : Owned) : Type 0 where
  pub member : IsMember m p.managers
  pub up : (manager_in m p.managers).up ≡ true
  pub named : (task_at m t p.managers).unit ≡ None → task_at m t p.managers ≡ idle

-- the task holds the unit, which is open, and the structure is in order
pub record MayGetAt (t : TaskNo) (u : UnitName) (terms : Terms) (p : Owned) : Type 0 where
  pub member : IsMember u.member p.managers
  pub structure : structure_number terms.structure ≤ length p.structures
  pub has : task_at u.member t p.managers ≡ open_task u (task_at u.member t p.managers).ops (task_at u.member t p.managers).claims
  pub ordered : AreInOrder (structure_in terms.structure p.structures).entries

abbrev pub MayMoveAt : Member → TaskNo → Owned → Phase → Type 0
MayMoveAt m t p Check = MayDrawAt m t p
MayMoveAt m t p (Connect u terms) = Unit {0}
MayMoveAt m t p (Take u terms epoch) = MayGetAt t u terms p

abbrev pub MayMove : Work → Owned → Type 0
MayMove work p = MayMoveAt work.member work.task p work.phase
