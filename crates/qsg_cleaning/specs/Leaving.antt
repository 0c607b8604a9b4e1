-- what a step of a cleaning leaves as it was
use Rattle.std.specs.Prelude.{◌≡◌}
use Rattle.qsg_num.specs.declared.seats.Member.{Member}
use Rattle.qsg_num.specs.declared.seats.StructNo.{StructNo}
use Rattle.qsg_datasets.specs.Kept.{set_in, with_set}
use Rattle.qsg_manager.specs.Facilities.{structure_in, with_structure}
use Rattle.qsg_parts.specs.Owned.{Owned}

-- all but the entries of the structure, and the map of the member's data set for it
pub record LeavesRest (m : Member) (s : StructNo) (p q : Owned) : Type 0 where
  pub parts : q ≡ record p { structures = q.structures; datasets = q.datasets }
  pub structures : q.structures ≡ with_structure s (record (structure_in s p.structures) { entries = (structure_in s q.structures).entries }) p.structures
  pub datasets : q.datasets ≡ with_set m s (record (set_in m s p.datasets) { map = (set_in m s q.datasets).map }) p.datasets
