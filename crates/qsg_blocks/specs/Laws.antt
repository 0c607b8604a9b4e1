-- The laws on blocks, bodies and saved maps.
use Rattle.std.specs.Prelude.{ℕ, ◌+◌, ◌<◌, ◌≤◌, ◌≡◌, ◌⊎◌, Bool, true, false, List, [], length, Some, IfSome}
use Rattle.std.specs.List.{AllByRecursion}
use Rattle.qsg_num.specs.declared.seats.Member.{Member}
use Rattle.qsg_num.specs.declared.ids.Block.{Block}
use Rattle.qsg_num.specs.Seats.{member_number}
use Rattle.qsg_num.specs.Ids.{id_at}
use Rattle.qsg_disk.specs.Byte.{Byte}
use Rattle.qsg_lists.specs.declared.parts.Entry.{Entry}
use Rattle.qsg_lists.specs.declared.parts.Place.{Place}
use Rattle.qsg_lists.specs.declared.parts.Place.TheVariants.{Inline, Offloaded}
use Rattle.qsg_lists.specs.declared.parts.State.{State}
use Rattle.qsg_lists.specs.declared.parts.State.TheVariants.{Active, Failed, InRecover}
use Rattle.qsg_lists.specs.Entries.{AreInOrder}
use Rattle.qsg_lists.specs.Structures.{ListStructure, is_active}
use Rattle.qsg_dataset.specs.Contents.{Contents, IsShut, IsReady}
use Rattle.qsg_datasets.specs.declared.member_data_set.Hand.{Hand}
use Rattle.qsg_datasets.specs.declared.member_data_set.KeptMap.{KeptMap}
use Rattle.qsg_datasets.specs.Kept.{KeptSet, IsKept, used_in}
use Rattle.qsg_blocks.specs.State.{Post, Ground, IsThere, stands, cells_at, blocks_for, listed, reserved, used_once}

-- ---- numbers of blocks, over every device

abbrev pub AreWithin : ℕ → List Block → Type 0
AreWithin most blocks = AllByRecursion (λ (b : Block). b.number < most) blocks

-- a body outside has as many blocks as it needs, all in range
abbrev pub FitsPlace : (Member → KeptSet) → Place → Type 0
FitsPlace sets (Inline body) = Unit {0}
FitsPlace sets (Offloaded owner blocks n) = AreWithin (sets owner).contents.blocks blocks × (length blocks ≡ blocks_for (sets owner).contents.block_size n)

-- two data sets have as many blocks, of one size
pub record AreAlike (a b : KeptSet) : Type 0 where
  pub block_size : a.contents.block_size ≡ b.contents.block_size
  pub blocks : a.contents.blocks ≡ b.contents.blocks

pub record IsFitting (g : Ground) : Type 0 where
  pub there : (m : Member) → (g.posts m).up ≡ true → IsThere (g.sets m)
  pub kept : (m : Member) → IsThere (g.sets m) → IsKept (g.sets m)
  pub alike : (m k : Member) → IsThere (g.sets m) → IsThere (g.sets k) → AreAlike (g.sets m) (g.sets k)
  pub hands : (m : Member) → AllByRecursion (λ (h : Hand). AreWithin (g.sets m).contents.blocks h.blocks) (g.sets m).hands
  pub places : AllByRecursion (λ (e : Entry). FitsPlace g.sets e.place) g.structure.entries

-- ---- users of blocks

-- A block of an owner that stands is used in its map as often as it is listed and reserved. Of another owner it is
-- listed once at most, and nobody holds it.
abbrev pub Counts : Bool → ℕ → ℕ → ℕ → Type 0
Counts true used listed reserved = listed + reserved ≡ used
Counts false used listed reserved = (listed ≤ 1) × (reserved ≡ 0)

abbrev pub IsCounted : ListStructure → Post → KeptSet → Member → Type 0
IsCounted s post set m = (b : Block) → Counts (stands s.state m post) (used_once (used_in s.epoch set) b) (listed m b s.entries) (reserved s.epoch b set.hands)

-- entries that list blocks of others than the recoverer are gone while a structure is recovered, and all are gone
-- where it is lost
abbrev pub IsEmptied : State → List Entry → Type 0
IsEmptied Active es = Unit {0}
IsEmptied Failed es = es ≡ []
IsEmptied (InRecover by i) es = (m : Member) (b : Block) → (member_number m ≡ member_number by → ⊥) → listed m b es ≡ 0

-- ---- epochs

-- the epoch that a task was told for which it holds blocks: the present one where its member stands, else an earlier
-- one while the structure is lost
abbrev pub IsTold : Bool → State → ℕ → ℕ → Type 0
IsTold true state now epoch = epoch ≡ now
IsTold false state now epoch = (epoch < now) × (state ≡ Failed)

-- the present epoch or an earlier one; an earlier one
abbrev pub IsPast : Bool → ℕ → ℕ → Type 0
IsPast true now epoch = epoch ≤ now
IsPast false now epoch = epoch < now

abbrev pub IsBlank : Hand → Type 0
IsBlank hand = hand.blocks ≡ []

abbrev pub AreBlank : List Hand → Type 0
AreBlank hands = AllByRecursion IsBlank hands

pub record IsHeldBy (m : Member) (post : Post) (s : ListStructure) (hand : Hand) : Type 0 where
  pub up : post.up ≡ true
  pub told : IsTold (stands s.state m post) s.state s.epoch hand.epoch

-- Only tasks of members that are up hold blocks, for the epoch that they were told. The map of such a member is of the
-- present epoch only where it stands.
pub record IsTimely (m : Member) (post : Post) (s : ListStructure) (set : KeptSet) : Type 0 where
  pub hands : AllByRecursion (λ (h : Hand). IsBlank h ⊎ IsHeldBy m post s h) set.hands
  pub map : post.up ≡ true → IfSome set.map (λ (x : KeptMap). IsPast (stands s.state m post) s.epoch x.epoch)

-- a recovery was begun by an incarnation that the member has had
abbrev pub IsBegun : State → (Member → Post) → Type 0
IsBegun Active posts = Unit {0}
IsBegun Failed posts = Unit {0}
IsBegun (InRecover by i) posts = i.number ≤ (posts by).incarnation

-- ids rise, from 1 up to the last one
pub record IsFresh (s : ListStructure) : Type 0 where
  pub first : AllByRecursion (λ (e : Entry). 1 ≤ e.id.number) s.entries
  pub ordered : AreInOrder s.entries
  pub topped : AllByRecursion (λ (e : Entry). e.id.number ≤ (id_at s.epoch s.last).number) s.entries

-- ---- bytes

abbrev pub IsSafe : Byte → Type 0
IsSafe byte = byte.safe ≡ Some byte.value

abbrev pub IsSafePlace : (Member → KeptSet) → Place → Type 0
IsSafePlace sets (Inline body) = Unit {0}
IsSafePlace sets (Offloaded owner blocks n) = AllByRecursion IsSafe (cells_at (sets owner).contents blocks n)

-- the bytes of bodies in listed blocks are safe
abbrev pub AreBodiesSafe : (Member → KeptSet) → List Entry → Type 0
AreBodiesSafe sets es = AllByRecursion (λ (e : Entry). IsSafePlace sets e.place) es

-- a map is true of what stands, while its owner is down: where it is of the present epoch, it uses exactly the blocks
-- that are listed
pub record IsMapTrue (m : Member) (epoch : ℕ) (used : List Bool) (s : ListStructure) : Type 0 where
  pub past : IsPast (is_active s.state) s.epoch epoch
  pub same : epoch ≡ s.epoch → (b : Block) → used_once used b ≡ listed m b s.entries

-- the header has a saved map, safely, and that is true
pub record IsOpen (m : Member) (contents : Contents) (s : ListStructure) : Type 0 where
  pub epoch : ℕ
  pub used : List Bool
  pub size : length used ≡ contents.blocks
  pub ready : IsReady epoch used contents.bytes
  pub is_true : IsMapTrue m epoch used s

-- what stands in the header while the owner is up, and while it is down
abbrev pub IsHeader : Bool → Member → Contents → ListStructure → Type 0
IsHeader true m contents s = IsShut contents.bytes
IsHeader false m contents s = IsShut contents.bytes ⊎ IsOpen m contents s

-- ---- all of them, where devices tell their bytes

pub record Laws (g : Ground) : Type 0 where
  pub counted : (m : Member) → IsCounted g.structure (g.posts m) (g.sets m) m
  pub timely : (m : Member) → IsTimely m (g.posts m) g.structure (g.sets m)
  pub emptied : IsEmptied g.structure.state g.structure.entries
  pub begun : IsBegun g.structure.state g.posts
  pub fresh : IsFresh g.structure
  pub safe : AreBodiesSafe g.sets g.structure.entries
  pub headers : (m : Member) → IsThere (g.sets m) → IsHeader (g.posts m).up m (g.sets m).contents g.structure
