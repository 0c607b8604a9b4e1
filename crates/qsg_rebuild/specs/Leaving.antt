-- what a step leaves as it was
use Rattle.std.specs.Prelude.{◌≡◌, ◌≤◌, ◌⊎◌}
use Rattle.qsg_num.specs.declared.seats.Member.{Member}
use Rattle.qsg_num.specs.declared.seats.StructNo.{StructNo}
use Rattle.qsg_num.specs.Seats.{member_number, structure_number}
use Rattle.qsg_dataset.specs.Contents.{IsSame}
use Rattle.qsg_parts.specs.Owned.{Owned}
use Rattle.qsg_rebuild.specs.declared.work.RebuildWork.{RebuildWork}
use Rattle.qsg_rebuild.specs.Steps.{set_of, with_set_of}

-- all but this data set is as it was, and of it the size and what tasks have taken
pub record LeavesRest (w : RebuildWork) (p q : Owned) : Type 0 where
  pub others : q ≡ with_set_of w (set_of w q) p
  pub hands : (set_of w q).hands ≡ (set_of w p).hands
  pub contents : IsSame (set_of w p).contents (set_of w q).contents
  pub later : (set_of w p).contents.faults ≤ (set_of w q).contents.faults

-- a data set of another member or for another structure
abbrev pub IsElsewhere : RebuildWork → Member → StructNo → Type 0
IsElsewhere w m s = (member_number m ≡ member_number w.member → ⊥) ⊎ (structure_number s ≡ structure_number w.structure → ⊥)
