-- a structure of a group, with the data sets for it, as the machine of blocks sees it
use Rattle.qsg_num.specs.declared.seats.StructNo.{StructNo}
use Rattle.qsg_blocks.specs.State.{Post, Ground}
use Rattle.qsg_datasets.specs.Kept.{set_in}
use Rattle.qsg_manager.specs.declared.managers.Manager.{Manager}
use Rattle.qsg_manager.specs.Facilities.{structure_in}
use Rattle.qsg_manager.specs.Storage.{manager_in}
use Rattle.qsg_parts.specs.Owned.{Owned}

abbrev pub post_of : Manager → Post
post_of manager = record { up = manager.up; incarnation = manager.incarnation.number }

abbrev pub ground_in : StructNo → Owned → Ground
ground_in s p = record {
  structure = structure_in s p.structures;
  sets = λ m. set_in m s p.datasets;
  posts = λ m. post_of (manager_in m p.managers);
}
