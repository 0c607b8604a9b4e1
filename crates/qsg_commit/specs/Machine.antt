-- the parts of a group as the machine sees them
use Rattle.std.specs.Prelude.{ℕ, ◌≡◌, ◌≤◌, List, length, Option, Some, slice_get}
use Rattle.qsg_num.specs.declared.seats.StructNo.{StructNo}
use Rattle.qsg_num.specs.declared.seats.TaskNo.{TaskNo}
use Rattle.qsg_num.specs.declared.ids.UnitName.{UnitName}
use Rattle.qsg_num.specs.Seats.{structure_number}
use Rattle.qsg_model.specs.declared.history.Op.{Op}
use Rattle.qsg_group.specs.declared.tasks.Claim.{Claim}
use Rattle.qsg_group.specs.Group.{Run, Group}
use Rattle.qsg_group.specs.Observers.{logged_ops}
use Rattle.qsg_group.specs.Changes.{settling_task}
use Rattle.qsg_manager.specs.Storage.{task_at}
use Rattle.qsg_manager.specs.Groups.{Rest, group_of}
use Rattle.qsg_manager.specs.Actions.{IsMember}
use Rattle.qsg_parts.specs.Owned.{Owned}

-- the machine's group, with what it has besides structures and members
abbrev pub group_in : Rest → Owned → Group
group_in rest p = group_of rest p.structures p.managers

-- the run of a unit, from a page on
abbrev pub run_in : UnitName → List (StructNo × Op) → List Claim → ℕ → Run
run_in u ops claims first = record { unit = u; first = first; told = logged_ops ops claims }

-- A unit that is committed or given up has this claim to settle next. Its connection may not be served any more.
pub record MaySettleMark (p : Owned) (u : UnitName) (t : TaskNo) (claims : List Claim) (first : Option ℕ) (n : ℕ) (c : Claim) : Type 0 where
  pub member : IsMember u.member p.managers
  pub structure : structure_number c.connection.structure ≤ length p.structures
  pub has : task_at u.member t p.managers ≡ settling_task u claims first n
  pub is : slice_get claims n ≡ Some c
