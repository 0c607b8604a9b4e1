-- what a step of a peer's work needs of the group
use Rattle.std.specs.Prelude.{◌≤◌, ◌||◌, Bool, true, false, is_some, length}
use Rattle.std.specs.List.{AllByRecursion}
use Rattle.qsg_num.specs.declared.seats.Member.{Member}
use Rattle.qsg_num.specs.declared.seats.StructNo.{StructNo}
use Rattle.qsg_num.specs.Seats.{member_number, structure_number}
use Rattle.qsg_parts.specs.Owned.{Owned}
use Rattle.qsg_repo.specs.declared.lives.Life.{Life}
use Rattle.qsg_peer.specs.declared.phases.FailedLife.{FailedLife}
use Rattle.qsg_peer.specs.declared.phases.Phase.{Phase}
use Rattle.qsg_peer.specs.declared.phases.Phase.TheVariants.{Find, Low, At}
use Rattle.qsg_peer.specs.declared.phases.Stage.{Stage}
use Rattle.qsg_peer.specs.Works.{Work}
use Rattle.qsg_peer.specs.declared.phases.Stage.TheVariants.{Read, Connect, Search, Settle, Resolve}

-- the group has the member's log
abbrev pub HasLog : Member → Owned → Type 0
HasLog m p = member_number m ≤ length p.logs

-- the group has the structure
abbrev pub HasStructure : StructNo → Owned → Type 0
HasStructure s p = structure_number s ≤ length p.structures

abbrev pub MayStepOn : FailedLife → Stage → Owned → Type 0
MayStepOn life Read p = HasLog life.member p
MayStepOn life (Connect s) p = HasStructure s p
MayStepOn life (Search connection after) p = HasStructure connection.structure p
MayStepOn life (Settle connection found) p = HasStructure connection.structure p
MayStepOn life Resolve p = Unit {0}

abbrev pub MayStepAt : Phase → Owned → Type 0
MayStepAt Find p = Unit {0}
MayStepAt (Low life) p = HasLog life.member p
MayStepAt (At life stage) p = MayStepOn life stage p

-- each incarnation that was given is of a member whose log the group has
abbrev pub AreMembers : Owned → Type 0
AreMembers p = AllByRecursion (λ (l : Life). HasLog l.member p) p.repo.lives

-- ---- memory

abbrev pub is_read_stage : Stage → Bool
is_read_stage Read = true
is_read_stage (Connect s) = false
is_read_stage (Search connection after) = false
is_read_stage (Settle connection found) = false
is_read_stage Resolve = false

abbrev pub is_reading : Phase → Bool
is_reading Find = false
is_reading (Low life) = false
is_reading (At life stage) = is_read_stage stage

-- a step reads a page, or feeds one
abbrev pub takes_memory : Work → Bool
takes_memory w = is_reading w.phase || is_some w.walk.kept
