-- What holds between a work in progress and the blocks that it reads, writes or counts.
use Rattle.std.specs.Prelude.{ℕ, ◌*◌, ◌≤◌, ◌≡◌, ◌≢◌, Bool, true, false, List, [], ◌∷◌, length, take, Option, Some, None, IfSome, if◌then◌else◌, nat_lt, option_map}
use Rattle.std.specs.List.{AllByRecursion}
use Rattle.qsg_num.specs.declared.seats.Member.{Member}
use Rattle.qsg_num.specs.declared.seats.TaskNo.{TaskNo}
use Rattle.qsg_num.specs.declared.ids.Block.{Block}
use Rattle.qsg_num.specs.declared.ids.EntryId.{EntryId}
use Rattle.qsg_num.specs.Ids.{id_at}
use Rattle.qsg_disk.specs.Byte.{values}
use Rattle.qsg_lists.specs.declared.parts.Entry.{Entry}
use Rattle.qsg_lists.specs.declared.parts.Place.TheVariants.{Offloaded}
use Rattle.qsg_lists.specs.Entries.{entry_at}
use Rattle.qsg_lists.specs.Structures.{is_active}
use Rattle.qsg_dataset.specs.Headers.{spelling}
use Rattle.qsg_dataset.specs.Contents.{rest_of, gate_of, gate_value, IsShut, IsReady}
use Rattle.qsg_datasets.specs.declared.member_data_set.KeptMap.{KeptMap}
use Rattle.qsg_datasets.specs.Kept.{KeptSet, hand_of, used_in}
use Rattle.qsg_blocks.specs.State.{Ground, IsThere, cells_at, body_at, blocks_for, lists, tally, listed, used_once}
use Rattle.qsg_blocks.specs.Laws.{IsPast, IsSafe, IsMapTrue}
use Rattle.qsg_blocks.specs.Changes.{Change}
use Rattle.qsg_blocks.specs.Changes.Change.{Takes, GivesBack, Writes, PutsOutside, RestoresOutside, Crashes, Stops, Maps, Saves, Starts}

-- ---- readers

-- a GET or the like that reads the blocks of an entry: the epoch that it was told, the entry's id and place, how many
-- blocks it has read, and what it read
pub record Reader : Type 0 where
  pub epoch : ℕ
  pub id : EntryId
  pub owner : Member
  pub blocks : List Block
  pub size : ℕ
  pub count : ℕ
  pub bytes : List ℕ

-- what was read is the front of this entry's body
pub record HasRead (w : Reader) (sets : Member → KeptSet) (e : Entry) : Type 0 where
  pub place : e.place ≡ Offloaded w.owner w.blocks w.size
  pub bytes : w.bytes ≡ body_at (sets w.owner).contents (take w.count w.blocks) w.size

-- as long as the entry stands in the epoch that the work was told
pub record FitsRead (w : Reader) (g : Ground) : Type 0 where
  pub past : IsPast (is_active g.structure.state) g.structure.epoch w.epoch
  pub given : w.epoch ≡ g.structure.epoch → w.id.number ≤ (id_at g.structure.epoch g.structure.last).number
  pub read : w.epoch ≡ g.structure.epoch → (e : Entry) → entry_at w.id g.structure.entries ≡ Some e → HasRead w g.sets e

-- ---- writers

-- a PUT or the like that writes a body into the blocks of its task's hand: the epoch for which they were taken, how
-- many it has written, and whether they were synced since
pub record Writer : Type 0 where
  pub owner : Member
  pub task : TaskNo
  pub epoch : ℕ
  pub body : List ℕ
  pub count : ℕ
  pub synced : Bool

-- over every device: the hand has as many blocks as the body needs
pub record FitsHand (w : Writer) (set : KeptSet) : Type 0 where
  pub there : IsThere set
  pub epoch : (hand_of w.task set).epoch ≡ w.epoch
  pub enough : length (hand_of w.task set).blocks ≡ blocks_for set.contents.block_size (length w.body)

-- the first blocks read as the front of the body, and after the sync all of it is safe
pub record FitsWrite (w : Writer) (g : Ground) : Type 0 where
  pub hand : FitsHand w (g.sets w.owner)
  pub written : w.epoch ≡ g.structure.epoch →
      body_at (g.sets w.owner).contents (take w.count (hand_of w.task (g.sets w.owner)).blocks) (length w.body) ≡ take (w.count * (g.sets w.owner).contents.block_size) w.body
  pub safe : w.epoch ≡ g.structure.epoch → w.synced ≡ true →
      AllByRecursion IsSafe (cells_at (g.sets w.owner).contents (hand_of w.task (g.sets w.owner)).blocks (length w.body))

-- the change isn't one of this task, nor ends its member
abbrev pub IsOthers : (m : Member) (t : TaskNo) (g h : Ground) → Change g h → Type 0
IsOthers m t g _ (Takes _ k s epoch n may) = m ≡ k → t ≡ s → ⊥
IsOthers m t g _ (GivesBack _ k s) = m ≡ k → t ≡ s → ⊥
IsOthers m t g _ (Writes _ k s block n set may) = m ≡ k → t ≡ s → ⊥
IsOthers m t g _ (PutsOutside _ k s u head n left active may) = m ≡ k → t ≡ s → ⊥
IsOthers m t g _ (RestoresOutside _ k s e n left restore may is) = m ≡ k → t ≡ s → ⊥
IsOthers m t g _ (Crashes _ k set may) = m ≡ k → ⊥
IsOthers m t g _ (Stops _ k may) = m ≡ k → ⊥
IsOthers m t g _ (Maps _ k set may) = m ≡ k → ⊥
IsOthers m t g _ _ = Unit {0}

-- ---- START

-- how often an entry lists this block, where its id is at most a place; None is past all ids
abbrev pub lists_to : Option ℕ → Member → Block → Entry → ℕ
lists_to None m b e = lists m b e.place
lists_to (Some place) m b e = if nat_lt place e.id.number then 0 else lists m b e.place

abbrev pub epoch_of_map : Option KeptMap → Option ℕ
epoch_of_map map = option_map (λ (x : KeptMap). x.epoch) map

-- a START: the epoch of the map that it has made of the structure, if it has; up to which id it has looked at
-- entries, None once it has looked at all; and how far the gate is: 0 while it is open, 1 once it reads 0, 2 once it is
-- shut
pub record Starter : Type 0 where
  pub owner : Member
  pub epoch : Option ℕ
  pub place : Option ℕ
  pub shuts : ℕ

-- how far the gate is when a START has read it
abbrev pub shuts_for : Bool → ℕ
shuts_for gate_open = if gate_open then 0 else 1

-- In an active structure of the map's epoch, the map uses exactly the blocks that entries up to the place list. In one
-- of another epoch no entry lists the owner's blocks.
pub record FitsStart (w : Starter) (g : Ground) : Type 0 where
  pub down : (g.posts w.owner).up ≡ false
  pub map : epoch_of_map (g.sets w.owner).map ≡ w.epoch
  pub past : IfSome w.epoch (IsPast (is_active g.structure.state) g.structure.epoch)
  pub made : is_active g.structure.state ≡ true → w.epoch ≡ Some g.structure.epoch → (b : Block) →
      used_once (used_in g.structure.epoch (g.sets w.owner)) b ≡ tally (lists_to w.place w.owner b) g.structure.entries
  pub gone : is_active g.structure.state ≡ true → (w.epoch ≡ Some g.structure.epoch → ⊥) → (b : Block) → listed w.owner b g.structure.entries ≡ 0
  pub opened : w.shuts ≡ 0 → gate_value (g.sets w.owner).contents.bytes ≢ 0
  pub reads : 1 ≤ w.shuts → values (gate_of (g.sets w.owner).contents.bytes) ≡ 0 ∷ []
  pub shut : 2 ≤ w.shuts → IsShut (g.sets w.owner).contents.bytes

-- the change isn't one of this START or STOP
abbrev pub IsOtherMembers : (m : Member) (g h : Ground) → Change g h → Type 0
IsOtherMembers m g _ (Maps _ k set may) = m ≡ k → ⊥
IsOtherMembers m g _ (Saves _ k set may) = m ≡ k → ⊥
IsOtherMembers m g _ (Starts _ k may) = m ≡ k → ⊥
IsOtherMembers m g _ _ = Unit {0}

-- ---- STOP

-- a STOP: how many steps of saving the map it has made
pub record Stopper : Type 0 where
  pub owner : Member
  pub steps : ℕ

-- until the gate is written it is shut; the first step leaves a header that reads as the map, and the second one that
-- is safe
pub record IsSaving (steps : ℕ) (set : KeptSet) (map : KeptMap) : Type 0 where
  pub shut : steps ≤ 2 → IsShut set.contents.bytes
  pub wrote : 1 ≤ steps → values (rest_of set.contents.bytes) ≡ spelling map.epoch map.used
  pub ready : 2 ≤ steps → IsReady map.epoch map.used set.contents.bytes

-- the map that was kept when the member stopped stays true
pub record FitsStop (w : Stopper) (g : Ground) : Type 0 where
  pub down : (g.posts w.owner).up ≡ false
  pub is_true : IfSome (g.sets w.owner).map (λ (x : KeptMap). IsMapTrue w.owner x.epoch x.used g.structure)
  pub saving : IfSome (g.sets w.owner).map (IsSaving w.steps (g.sets w.owner))
