-- What a group owns, as contracts see it, whatever its devices are.
use Rattle.std.specs.Prelude.{ℕ, ◌≡◌, ◌≤◌, List, length}
use Rattle.qsg_num.specs.declared.seats.Member.{Member}
use Rattle.qsg_num.specs.declared.seats.StructNo.{StructNo}
use Rattle.qsg_num.specs.Seats.{member_number, structure_number}
use Rattle.qsg_model.specs.Recorded.{Recorded}
use Rattle.qsg_lists.specs.Structures.{ListStructure}
use Rattle.qsg_objects.specs.Registry.{Registry}
use Rattle.qsg_repo.specs.Tables.{Repository}
use Rattle.qsg_manager.specs.declared.managers.Manager.{Manager}
use Rattle.qsg_logs.specs.Kept.{KeptLog}
use Rattle.qsg_datasets.specs.Kept.{KeptSet, sets_of}
use Rattle.qsg_parts.specs.declared.parts.Parts.{Parts}

pub record Owned : Type 0 where
  pub structures : List ListStructure
  pub managers : List Manager
  pub logs : List KeptLog
  pub datasets : List (List KeptSet)
  pub repo : Repository
  pub objects : Registry
  pub history : Recorded

abbrev pub owned : {D : Type 0} → Parts D → Owned
owned p = record { structures = p.structures; managers = p.managers; logs = p.logs; datasets = p.datasets; repo = p.repo; objects = p.objects; history = p.history }

-- the group has this member, with its log
pub record HasMember (m : Member) (p : Owned) : Type 0 where
  pub manager : member_number m ≤ length p.managers
  pub log : member_number m ≤ length p.logs

-- each structure that is defined is one of the group's
abbrev pub HasStructures : Owned → Type 0
HasStructures p = length p.objects.structures ≤ length p.structures

-- each member has a data set for each structure
pub record HasDataSets (p : Owned) : Type 0 where
  pub members : length p.datasets ≡ length p.managers
  pub structures : (m : Member) → member_number m ≤ length p.managers → length (sets_of m p.datasets) ≡ length p.structures
