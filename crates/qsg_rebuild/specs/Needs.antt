-- what a step of a rebuild needs of the group
use Rattle.std.specs.Prelude.{ℕ, ◌≡◌, ◌<◌, ◌≤◌, Bool, true, false, List, length}
use Rattle.std.specs.List.{AllByRecursion}
use Rattle.qsg_num.specs.declared.seats.Member.{Member}
use Rattle.qsg_num.specs.declared.ids.Block.{Block}
use Rattle.qsg_num.specs.Seats.{member_number, structure_number}
use Rattle.qsg_lists.specs.declared.parts.Entry.{Entry}
use Rattle.qsg_lists.specs.declared.parts.Place.{Place}
use Rattle.qsg_lists.specs.declared.parts.Place.TheVariants.{Inline, Offloaded}
use Rattle.qsg_datasets.specs.Kept.{HasSet}
use Rattle.qsg_parts.specs.Owned.{Owned}
use Rattle.qsg_rebuild.specs.declared.phases.Phase.{Phase}
use Rattle.qsg_rebuild.specs.declared.phases.Phase.TheVariants.{Connect, Load, Scan, Shut, Sync}
use Rattle.qsg_rebuild.specs.declared.work.RebuildWork.{RebuildWork}
use Rattle.qsg_rebuild.specs.Steps.{structure_of, set_of}

-- the blocks that a body of this owner takes are among so many
abbrev pub IsWithin : Member → ℕ → Place → Type 0
IsWithin m count (Inline body) = Unit {0}
IsWithin m count (Offloaded owner blocks length) = member_number owner ≡ member_number m → AllByRecursion (λ (b : Block). b.number < count) blocks

abbrev pub AreWithin : Member → ℕ → List Entry → Type 0
AreWithin m count entries = AllByRecursion (λ (e : Entry). IsWithin m count e.place) entries

-- the group has the structure, and the member's data set for it, in which each block is that an entry of the member lists
pub record MayStep (w : RebuildWork) (p : Owned) : Type 0 where
  pub structure : structure_number w.structure ≤ length p.structures
  pub set : HasSet w.member w.structure p.datasets
  pub within : AreWithin w.member (set_of w p).contents.blocks (structure_of w p).entries

-- ---- memory

-- a step reads the header
abbrev pub loads : Phase → Bool
loads Connect = false
loads (Load epoch is_served) = true
loads (Scan epoch after is_open) = false
loads Shut = false
loads Sync = false

abbrev pub takes_memory : RebuildWork → Bool
takes_memory w = loads w.phase
