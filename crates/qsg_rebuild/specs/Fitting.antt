-- what holds between a rebuild in progress and the entries
use Rattle.std.specs.Prelude.{ℕ, ◌≡◌, ◌≤◌, ◌&&◌, ◌==◌, Bool, true, false, List, length, Option, Some, None}
use Rattle.std.specs.List.{list_any}
use Rattle.qsg_num.specs.declared.seats.Member.{Member}
use Rattle.qsg_num.specs.declared.ids.Block.{Block}
use Rattle.qsg_num.specs.Seats.{member_number}
use Rattle.qsg_lists.specs.declared.parts.Entry.{Entry}
use Rattle.qsg_lists.specs.declared.parts.Place.{Place}
use Rattle.qsg_lists.specs.declared.parts.Place.TheVariants.{Inline, Offloaded}
use Rattle.qsg_lists.specs.Structures.{ListStructure, is_active}
use Rattle.qsg_space.specs.Spaces.{has_block}
use Rattle.qsg_blocks.specs.State.{Ground, AreTold, listed}
use Rattle.qsg_dataset.specs.Contents.{gate_of}
use Rattle.qsg_datasets.specs.Kept.{IsKept}
use Rattle.qsg_blocks.specs.Laws.{IsFitting, IsPast, Laws}
use Rattle.qsg_blocks.specs.Works.{Starter, FitsStart, shuts_for, epoch_of_map}
use Rattle.qsg_rebuild.specs.declared.phases.Phase.{Phase}
use Rattle.qsg_rebuild.specs.declared.phases.Phase.TheVariants.{Connect, Load, Scan, Shut, Sync}
use Rattle.qsg_rebuild.specs.declared.work.RebuildWork.{RebuildWork}
use Rattle.qsg_rebuild.specs.Gates.{KnowsGate}

-- the devices tell their bytes, and the laws hold
pub record IsLawful (g : Ground) : Type 0 where
  pub told : AreTold g.sets
  pub fitting : IsFitting g
  pub laws : Laws g

-- ---- while the map is made

-- a member that is down has no map
pub record HasNoMap (m : Member) (g : Ground) : Type 0 where
  pub down : (g.posts m).up ≡ false
  pub map : epoch_of_map (g.sets m).map ≡ None

-- the header of its data set has a gate
abbrev pub HasGate : Member → Ground → Type 0
HasGate m g = 1 ≤ length (gate_of (g.sets m).contents.bytes)

-- The epoch of an active structure that a connection told is its epoch still; or else it is past, and where the
-- structure is active again, no entry lists a block of the member, which is down.
pub record IsTold (m : Member) (epoch : ℕ) (s : ListStructure) : Type 0 where
  pub past : IsPast (is_active s.state) s.epoch epoch
  pub gone : is_active s.state ≡ true → (epoch ≡ s.epoch → ⊥) → (b : Block) → listed m b s.entries ≡ 0

-- no entry of an active structure lists a block of the member
abbrev pub IsBare : Member → ListStructure → Type 0
IsBare m s = is_active s.state ≡ true → (b : Block) → listed m b s.entries ≡ 0

-- the map of an epoch, made of the entries up to an id, or of all, with a gate that is open or reads 0
abbrev pub starter : Member → Option ℕ → Option ℕ → Bool → Starter
starter m epoch place is_open = record { owner = m; epoch = epoch; place = place; shuts = shuts_for is_open }

-- the map that the member has is made of all entries
abbrev pub IsMadeOfAll : Member → Bool → Ground → Type 0
IsMadeOfAll m is_open g = FitsStart (starter m (epoch_of_map (g.sets m).map) None is_open) g

abbrev pub FitsAt : Phase → Member → Ground → Type 0
FitsAt Connect m g = (g.posts m).up ≡ false
FitsAt (Load epoch true) m g = HasNoMap m g × IsTold m epoch g.structure
FitsAt (Load epoch false) m g = HasNoMap m g × IsBare m g.structure
FitsAt (Scan epoch after is_open) m g = FitsStart (starter m (Some epoch) (Some after.number) is_open) g
FitsAt Shut m g = IsMadeOfAll m true g
FitsAt Sync m g = IsMadeOfAll m false g

-- the header has a gate, and the map is as far as the rebuild has come
pub record FitsRebuild (w : RebuildWork) (g : Ground) : Type 0 where
  pub gate : HasGate w.member g
  pub map : FitsAt w.phase w.member g

-- ---- over every device

-- What a step needs to be an action of the machine. Where devices tell their bytes, the laws hold and the gate is as the
-- rebuild knows it.
pub record MayAct (w : RebuildWork) (g : Ground) : Type 0 where
  pub down : (g.posts w.member).up ≡ false
  pub kept : IsKept (g.sets w.member)
  pub laws : AreTold g.sets → Laws g
  pub gate : AreTold g.sets → KnowsGate w.phase (g.sets w.member).contents.bytes

-- ---- once it is made

-- the starter of a rebuild that has ended, with its gate shut
abbrev pub ended : Member → Ground → Starter
ended m g = record { owner = m; epoch = epoch_of_map (g.sets m).map; place = None; shuts = 2 }

-- a body in blocks of this owner lists the block
abbrev pub has_in : Member → Block → Place → Bool
has_in m b (Inline body) = false
has_in m b (Offloaded owner blocks length) = (member_number owner == member_number m) && has_block b blocks

-- some entry does
abbrev pub is_listed : Member → Block → List Entry → Bool
is_listed m b entries = list_any (λ e. has_in m b e.place) entries
