-- what holds between a STOP and the blocks of its member's data sets
use Rattle.std.specs.Prelude.{ℕ, ◌≡◌, ◌<◌, ◌-◌, false}
use Rattle.qsg_num.specs.declared.seats.Member.{Member}
use Rattle.qsg_num.specs.declared.seats.StructNo.{StructNo}
use Rattle.qsg_num.specs.Seats.{structure_number}
use Rattle.qsg_lists.specs.Structures.{is_active}
use Rattle.qsg_blocks.specs.State.{Ground, AreTold, stands}
use Rattle.qsg_blocks.specs.Laws.{AreBlank, IsFitting, Laws}
use Rattle.qsg_blocks.specs.Changes.{Change}
use Rattle.qsg_blocks.specs.Works.{FitsStop, IsOtherMembers}
use Rattle.qsg_datasets.specs.Kept.{HasSet, IsKept, set_in}
use Rattle.qsg_parts.specs.Owned.{Owned}
use Rattle.qsg_stop.specs.declared.phases.Phase.{Phase}
use Rattle.qsg_stop.specs.declared.phases.Phase.TheVariants.{Connect, Save, Tell, Last}
use Rattle.qsg_stop.specs.declared.phases.SaveCall.{SaveCall}
use Rattle.qsg_stop.specs.declared.phases.SaveCall.TheVariants.{WriteMap, SyncMap, OpenGate, SyncGate}
use Rattle.qsg_stop.specs.Ground.{ground_in}

-- the calls that save a map which come before this one
abbrev pub calls_before : SaveCall → ℕ
calls_before WriteMap = 0
calls_before SyncMap = 1
calls_before OpenGate = 2
calls_before SyncGate = 3

-- The map of the member for a structure is true of it and saved so far, where devices tell their bytes.
abbrev pub IsTrueTo : ℕ → Member → StructNo → Owned → Type 0
IsTrueTo calls m s p = AreTold (ground_in s p).sets → FitsStop (record { owner = m; steps = calls }) (ground_in s p)

-- the maps for structures of higher numbers are true, and nothing of them is saved yet
abbrev pub AreTrueBehind : ℕ → Member → Owned → Type 0
AreTrueBehind n m p = (s : StructNo) → n < structure_number s → IsTrueTo 0 m s p

abbrev pub AreTrueAt : Phase → Member → Owned → Type 0
AreTrueAt (Connect s) m p = AreTrueBehind (structure_number s - 1) m p
AreTrueAt (Save connection call) m p = IsTrueTo (calls_before call) m connection.structure p × AreTrueBehind (structure_number connection.structure) m p
AreTrueAt (Tell connection) m p = AreTrueBehind (structure_number connection.structure) m p
AreTrueAt Last m p = Unit {0}

-- what every data set of the member keeps
abbrev pub AreKept : Member → Owned → Type 0
AreKept m p = (s : StructNo) → HasSet m s p.datasets → IsKept (set_in m s p.datasets)

-- the laws on the blocks of a structure
pub record HasLaws (s : StructNo) (p : Owned) : Type 0 where
  pub fitting : IsFitting (ground_in s p)
  pub laws : AreTold (ground_in s p).sets → Laws (ground_in s p)

-- no task of the member holds blocks for a structure, and it doesn't recover one
pub record IsIdle (m : Member) (s : StructNo) (p : Owned) : Type 0 where
  pub blank : AreBlank (set_in m s p.datasets).hands
  pub calm : is_active (ground_in s p).structure.state ≡ false → stands (ground_in s p).structure.state m ((ground_in s p).posts m) ≡ false

-- an action on the blocks of a structure that isn't one of this STOP
pub record IsOthers (m : Member) (g h : Ground) : Type 0 where
  pub change : Change g h
  pub others : IsOtherMembers m g h change
  pub told : AreTold h.sets → AreTold g.sets
