-- what the steps of a cleaning need of the group
use Rattle.std.specs.Prelude.{◌≤◌, length}
use Rattle.qsg_num.specs.declared.seats.Member.{Member}
use Rattle.qsg_num.specs.declared.seats.StructNo.{StructNo}
use Rattle.qsg_num.specs.Seats.{structure_number}
use Rattle.qsg_datasets.specs.Kept.{HasSet}
use Rattle.qsg_parts.specs.Owned.{Owned}

-- the group has the structure
abbrev pub HasStructure : StructNo → Owned → Type 0
HasStructure s p = structure_number s ≤ length p.structures

-- and the member's data set for it
pub record MayClean (m : Member) (s : StructNo) (p : Owned) : Type 0 where
  pub structure : HasStructure s p
  pub set : HasSet m s p.datasets
