-- The shared actions that touch blocks and bodies: what each changes, and when it may come.
use Rattle.std.specs.Prelude.{ℕ, ◌+◌, ◌<◌, ◌≤◌, ◌≡◌, ◌⊎◌, true, false, List, [], length, Option, Some, None, IfSome, replicate}
use Rattle.std.specs.List.{AllByRecursion}
use Rattle.qsg_num.specs.declared.seats.Member.{Member}
use Rattle.qsg_num.specs.declared.seats.TaskNo.{TaskNo}
use Rattle.qsg_num.specs.declared.ids.Block.{Block}
use Rattle.qsg_num.specs.declared.ids.EntryId.{EntryId}
use Rattle.qsg_num.specs.declared.ids.Incarnation.{Incarnation}
use Rattle.qsg_num.specs.declared.ids.UnitName.{UnitName}
use Rattle.qsg_num.specs.Ids.{id_at}
use Rattle.qsg_disk.specs.Byte.{Beside, EachPair, IsKeptOrSynced}
use Rattle.qsg_lists.specs.declared.parts.Entry.{Entry}
use Rattle.qsg_lists.specs.declared.parts.Head.{Head}
use Rattle.qsg_lists.specs.declared.parts.Place.TheVariants.{Inline, Offloaded}
use Rattle.qsg_lists.specs.declared.parts.State.TheVariants.{InRecover}
use Rattle.qsg_lists.specs.Marks.{is_cleanup}
use Rattle.qsg_lists.specs.Entries.{entry_at, revise}
use Rattle.qsg_lists.specs.Structures.{ListStructure, is_active}
use Rattle.qsg_lists.specs.Settling.{deleted}
use Rattle.qsg_lists.specs.Writing.{written, lost}
use Rattle.qsg_lists.specs.Recovering.{begun, is_recovering, restored, recovered, abandoned}
use Rattle.qsg_space.specs.Spaces.{has_block}
use Rattle.qsg_dataset.specs.Contents.{IsShut, IsSame, offset_of}
use Rattle.qsg_datasets.specs.declared.member_data_set.Hand.{Hand}
use Rattle.qsg_datasets.specs.declared.member_data_set.KeptMap.{KeptMap}
use Rattle.qsg_datasets.specs.Kept.{KeptSet, IsKept, used_in, hand_of, with_hand, with_map, taken, given_back, freed}
use Rattle.qsg_datasets.specs.Calls.{IsStorageSame, IsCut}
use Rattle.qsg_manager.specs.Views.{is_outside}
use Rattle.qsg_group.specs.Tables.{at_member}
use Rattle.qsg_blocks.specs.State.{Post, Ground, IsThere, AreTold, stands, blocks_for, listed, used_once}
use Rattle.qsg_blocks.specs.Laws.{IsTold, IsPast, IsBlank, AreBlank, IsSafePlace, IsHeader}

-- ---- what changes

abbrev pub with_structure : ListStructure → Ground → Ground
with_structure s g = record g { structure = s }

abbrev pub with_set : Member → KeptSet → Ground → Ground
with_set m set g = record g { sets = at_member m (λ _. set) g.sets }

abbrev pub with_post : Member → Post → Ground → Ground
with_post m post g = record g { posts = at_member m (λ _. post) g.posts }

abbrev pub with_entries : List Entry → ListStructure → ListStructure
with_entries es s = record s { entries = es }

-- a member ends; its next incarnation begins
abbrev pub ended : Post → Post
ended post = record post { up = false }

abbrev pub next : Post → Post
next post = record { up = true; incarnation = post.incarnation + 1 }

-- the blocks that a task has taken are an entry's now
abbrev pub handed_over : Member → TaskNo → Hand → Ground → Ground
handed_over m t left g = with_set m (with_hand t left (g.sets m)) g

abbrev pub blocks_of : Member → TaskNo → Ground → List Block
blocks_of m t g = (hand_of t (g.sets m)).blocks

-- the member has no map of the structure
abbrev pub without_map : KeptSet → KeptSet
without_map set = record set { map = None }

-- ---- a task's blocks

-- for the epoch that the task was told; it has none yet
pub record MayTake (g : Ground) (m : Member) (t : TaskNo) (epoch : ℕ) : Type 0 where
  pub up : (g.posts m).up ≡ true
  pub told : IsTold (stands g.structure.state m (g.posts m)) g.structure.state g.structure.epoch epoch
  pub blank : IsBlank (hand_of t (g.sets m))

-- a write on a block that the task has taken, whether it succeeds or not
pub record MayWrite (g : Ground) (m : Member) (t : TaskNo) (block : Block) (n : ℕ) (set : KeptSet) : Type 0 where
  pub up : (g.posts m).up ≡ true
  pub same : IsStorageSame (g.sets m) set
  pub has : has_block block (blocks_of m t g) ≡ true
  pub fits : n ≤ (g.sets m).contents.block_size
  pub beside : (g.sets m).contents.tells ≡ true → Beside (offset_of (g.sets m).contents block.number) n (g.sets m).contents.bytes set.contents.bytes

-- a sync, whether it succeeds or not
pub record MaySync (g : Ground) (m : Member) (set : KeptSet) : Type 0 where
  pub there : IsThere (g.sets m)
  pub same : IsStorageSame (g.sets m) set
  pub kept : (g.sets m).contents.tells ≡ true → EachPair IsKeptOrSynced (g.sets m).contents.bytes set.contents.bytes

-- a read
pub record MayRead (g : Ground) (m : Member) (set : KeptSet) : Type 0 where
  pub there : IsThere (g.sets m)
  pub same : IsStorageSame (g.sets m) set
  pub bytes : (g.sets m).contents.tells ≡ true → set.contents.bytes ≡ (g.sets m).contents.bytes

-- ---- entries

-- as many blocks as the body needs, with safe bytes, taken for this epoch by a task of a member that may write
-- entries
pub record MayList (g : Ground) (m : Member) (t : TaskNo) (n : ℕ) (left : Hand) : Type 0 where
  pub writes : stands g.structure.state m (g.posts m) ≡ true
  pub epoch : (hand_of t (g.sets m)).epoch ≡ g.structure.epoch
  pub enough : length (blocks_of m t g) ≡ blocks_for (g.sets m).contents.block_size n
  pub safe : AreTold g.sets → IsSafePlace g.sets (Offloaded m (blocks_of m t g) n)
  pub emptied : IsBlank left

-- a recovery adds an entry above all that are there
pub record MayRestore (g : Ground) (id : EntryId) : Type 0 where
  pub first : 1 ≤ id.number
  pub recovering : is_recovering g.structure.state ≡ true
  pub above : AllByRecursion (λ (e : Entry). e.id.number < id.number) g.structure.entries
  pub topped : id.number ≤ (id_at g.structure.epoch 0).number

-- what is left of an entry is the entry with another mark, and only one with its body inside goes
pub record KeepsPlaces (f : Entry → Option Entry) : Type 0 where
  pub stays : (e x : Entry) → f e ≡ Some x → x ≡ record e { mark = x.mark }
  pub goes : (e : Entry) → f e ≡ None → is_outside e.place ≡ false

-- a removed entry is forgotten by its owner
pub record MayForget (g : Ground) (m : Member) (e : Entry) (blocks : List Block) (n : ℕ) : Type 0 where
  pub up : (g.posts m).up ≡ true
  pub active : is_active g.structure.state ≡ true
  pub at : entry_at e.id g.structure.entries ≡ Some e
  pub mark : is_cleanup e.mark ≡ true
  pub place : e.place ≡ Offloaded m blocks n

-- ---- members

pub record MayCrash (g : Ground) (m : Member) (set : KeptSet) : Type 0 where
  pub up : (g.posts m).up ≡ true
  pub cut : IsCut (g.sets m) set

-- no task of the member holds blocks
pub record MayStop (g : Ground) (m : Member) : Type 0 where
  pub up : (g.posts m).up ≡ true
  pub blank : AreBlank (g.sets m).hands

-- a member that is down makes, claims or drops its map, and its tasks take no blocks; no byte changes
pub record MayMap (g : Ground) (m : Member) (set : KeptSet) : Type 0 where
  pub down : (g.posts m).up ≡ false
  pub there : IsThere (g.sets m)
  pub kept : IsKept set
  pub hands : (set.hands ≡ (g.sets m).hands) ⊎ AreBlank set.hands
  pub same : IsSame (g.sets m).contents set.contents
  pub bytes : (g.sets m).contents.tells ≡ true → set.contents.bytes ≡ (g.sets m).contents.bytes

-- a member that is down writes in its header, whether it succeeds or not, and the header may stand as that leaves it
pub record MaySave (g : Ground) (m : Member) (set : KeptSet) : Type 0 where
  pub down : (g.posts m).up ≡ false
  pub there : IsThere (g.sets m)
  pub same : IsStorageSame (g.sets m) set
  pub beside : (g.sets m).contents.tells ≡ true → Beside 0 4096 (g.sets m).contents.bytes set.contents.bytes
  pub header : AreTold g.sets → IsHeader false m set.contents g.structure

-- A START has made its map: of an active structure, it uses exactly the blocks that are listed. Its gate is shut.
pub record IsMade (m : Member) (set : KeptSet) (s : ListStructure) : Type 0 where
  pub past : IfSome set.map (λ (x : KeptMap). IsPast (is_active s.state) s.epoch x.epoch)
  pub made : is_active s.state ≡ true → (b : Block) → used_once (used_in s.epoch set) b ≡ listed m b s.entries
  pub shut : IsShut set.contents.bytes

pub record MayStart (g : Ground) (m : Member) : Type 0 where
  pub down : (g.posts m).up ≡ false
  pub there : IsThere (g.sets m)
  pub made : AreTold g.sets → IsMade m (g.sets m) g.structure

-- ---- structures

pub record MayLose (g : Ground) : Type 0 where
  pub active : is_active g.structure.state ≡ true

-- nobody that lives recovers the structure, and no task holds blocks
pub record MayBegin (g : Ground) (m : Member) (i : Incarnation) : Type 0 where
  pub up : (g.posts m).up ≡ true
  pub incarnation : (g.posts m).incarnation ≡ i.number
  pub inactive : is_active g.structure.state ≡ false
  pub dead : (k : Member) → stands g.structure.state k (g.posts k) ≡ false
  pub blank : (k : Member) → AreBlank (g.sets k).hands

abbrev pub begun_set : Ground → Member → KeptSet
begun_set g m = with_map g.structure.epoch (replicate (g.sets m).contents.blocks false) (g.sets m)

-- the recoverer lives; where the epoch rises, nothing is restored and its tasks hold no blocks
pub record MayEnd (g : Ground) (m : Member) (i : Incarnation) (floor : ℕ) : Type 0 where
  pub by : g.structure.state ≡ InRecover m i
  pub live : stands g.structure.state m (g.posts m) ≡ true
  pub empty : g.structure.epoch < floor → g.structure.entries ≡ []
  pub blank : g.structure.epoch < floor → AreBlank (g.sets m).hands

-- the recoverer lives, and its tasks hold no blocks
pub record MayAbandon (g : Ground) (m : Member) (i : Incarnation) : Type 0 where
  pub by : g.structure.state ≡ InRecover m i
  pub live : stands g.structure.state m (g.posts m) ≡ true
  pub blank : AreBlank (g.sets m).hands

-- one shared action
pub data Change : Ground → Ground → Type 0 where
  Rests : (g : Ground) → Change g g
  Takes : (g : Ground) (m : Member) (t : TaskNo) (epoch n : ℕ) → MayTake g m t epoch → Change g (with_set m (taken t epoch n (g.sets m)) g)
  GivesBack : (g : Ground) (m : Member) (t : TaskNo) → Change g (with_set m (given_back t (g.sets m)) g)
  Writes : (g : Ground) (m : Member) (t : TaskNo) (block : Block) (n : ℕ) (set : KeptSet) → MayWrite g m t block n set → Change g (with_set m set g)
  Syncs : (g : Ground) (m : Member) (set : KeptSet) → MaySync g m set → Change g (with_set m set g)
  Reads : (g : Ground) (m : Member) (set : KeptSet) → MayRead g m set → Change g (with_set m set g)
  -- an entry is written, with its body inside, or outside in the blocks that a task took for it
  PutsInside : (g : Ground) (u : UnitName) (head : Head) (body : List ℕ) → is_active g.structure.state ≡ true → Change g (with_structure (written g.structure u head (Inline body)) g)
  PutsOutside : (g : Ground) (m : Member) (t : TaskNo) (u : UnitName) (head : Head) (n : ℕ) (left : Hand) → is_active g.structure.state ≡ true → MayList g m t n left
      → Change g (with_structure (written g.structure u head (Offloaded m (blocks_of m t g) n)) (handed_over m t left g))
  -- marks change, and entries with their bodies inside are deleted
  Revises : (g : Ground) (id : EntryId) (f : Entry → Option Entry) → KeepsPlaces f → Change g (with_structure (with_entries (revise id f g.structure.entries) g.structure) g)
  Forgets : (g : Ground) (m : Member) (e : Entry) (blocks : List Block) (n : ℕ) → MayForget g m e blocks n
      → Change g (with_structure (with_entries (revise e.id deleted g.structure.entries) g.structure) (with_set m (freed g.structure.epoch blocks (g.sets m)) g))
  -- members end and start
  Crashes : (g : Ground) (m : Member) (set : KeptSet) → MayCrash g m set → Change g (with_post m (ended (g.posts m)) (with_set m set g))
  Stops : (g : Ground) (m : Member) → MayStop g m → Change g (with_post m (ended (g.posts m)) g)
  Maps : (g : Ground) (m : Member) (set : KeptSet) → MayMap g m set → Change g (with_set m set g)
  Saves : (g : Ground) (m : Member) (set : KeptSet) → MaySave g m set → Change g (with_set m set g)
  Starts : (g : Ground) (m : Member) → MayStart g m → Change g (with_post m (next (g.posts m)) g)
  -- the structure is lost and recovered
  Loses : (g : Ground) → MayLose g → Change g (with_structure (lost g.structure) g)
  Begins : (g : Ground) (m : Member) (i : Incarnation) → MayBegin g m i → Change g (with_structure (begun g.structure m i) (with_set m (begun_set g m) g))
  RestoresInside : (g : Ground) (e : Entry) (body : List ℕ) → MayRestore g e.id → e.place ≡ Inline body → Change g (with_structure (restored g.structure e) g)
  RestoresOutside : (g : Ground) (m : Member) (t : TaskNo) (e : Entry) (n : ℕ) (left : Hand) → MayRestore g e.id → MayList g m t n left → e.place ≡ Offloaded m (blocks_of m t g) n
      → Change g (with_structure (restored g.structure e) (handed_over m t left g))
  Ends : (g : Ground) (m : Member) (i : Incarnation) (floor : ℕ) → MayEnd g m i floor → Change g (with_structure (recovered g.structure floor) g)
  Abandons : (g : Ground) (m : Member) (i : Incarnation) → MayAbandon g m i → Change g (with_structure (abandoned g.structure) (with_set m (without_map (g.sets m)) g))
