-- what the steps of a STOP need of the group
use Rattle.std.specs.Prelude.{◌≡◌, ◌≤◌, true, length}
use Rattle.qsg_num.specs.declared.seats.Member.{Member}
use Rattle.qsg_num.specs.declared.seats.StructNo.{StructNo}
use Rattle.qsg_num.specs.Seats.{member_number, structure_number}
use Rattle.qsg_lists.specs.declared.parts.Connection.{Connection}
use Rattle.qsg_datasets.specs.Kept.{HasSet, set_in, stands}
use Rattle.qsg_parts.specs.Owned.{Owned}
use Rattle.qsg_stop.specs.declared.phases.Phase.{Phase}
use Rattle.qsg_stop.specs.declared.phases.Phase.TheVariants.{Connect, Save, Tell, Last}
use Rattle.qsg_stop.specs.declared.work.StopWork.{StopWork}

-- the group has the structure
abbrev pub HasStructure : StructNo → Owned → Type 0
HasStructure s p = structure_number s ≤ length p.structures

-- the group has the member's data sets, one for each structure
pub record HasSets (m : Member) (p : Owned) : Type 0 where
  pub member : member_number m ≤ length p.datasets
  pub each : (s : StructNo) → HasStructure s p → HasSet m s p.datasets

-- the member's map stands for the epoch of a connection
abbrev pub IsMapped : Member → Connection → Owned → Type 0
IsMapped m connection p = stands connection.epoch (set_in m connection.structure p.datasets) ≡ true

pub record MaySave (m : Member) (connection : Connection) (p : Owned) : Type 0 where
  pub structure : HasStructure connection.structure p
  pub map : IsMapped m connection p

abbrev pub MayStepAt : Phase → Member → Owned → Type 0
MayStepAt (Connect s) m p = HasStructure s p
MayStepAt (Save connection call) m p = MaySave m connection p
MayStepAt (Tell connection) m p = MaySave m connection p
MayStepAt Last m p = Unit {0}

-- what a step needs: the map that it saves is still the member's
pub record MayStep (w : StopWork) (p : Owned) : Type 0 where
  pub sets : HasSets w.member p
  pub at : MayStepAt w.phase w.member p
