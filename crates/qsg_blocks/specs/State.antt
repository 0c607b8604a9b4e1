-- One structure with the data sets of its bodies, and who uses their blocks.
use Rattle.std.specs.Prelude.{ℕ, ◌+◌, ◌-◌, ◌/◌, ◌≤◌, ◌≡◌, ◌==◌, ◌&&◌, Bool, true, false, List, [], ◌∷◌, ◌++◌, if◌then◌else◌, min}
use Rattle.qsg_num.specs.declared.seats.Member.{Member}
use Rattle.qsg_num.specs.declared.ids.Block.{Block}
use Rattle.qsg_num.specs.Seats.{member_number}
use Rattle.qsg_disk.specs.Byte.{Byte, values}
use Rattle.qsg_lists.specs.declared.parts.Entry.{Entry}
use Rattle.qsg_lists.specs.declared.parts.Place.{Place}
use Rattle.qsg_lists.specs.declared.parts.Place.TheVariants.{Inline, Offloaded}
use Rattle.qsg_lists.specs.declared.parts.State.{State}
use Rattle.qsg_lists.specs.declared.parts.State.TheVariants.{Active, Failed, InRecover}
use Rattle.qsg_lists.specs.Structures.{ListStructure}
use Rattle.qsg_space.specs.Spaces.{is_used, is_free}
use Rattle.qsg_dataset.specs.Contents.{Contents, block_bytes}
use Rattle.qsg_datasets.specs.declared.member_data_set.Hand.{Hand}
use Rattle.qsg_datasets.specs.Kept.{KeptSet, stands as map_stands, used_in}
use Rattle.qsg_manager.specs.Views.{Bodies}

-- whether a member is up, and its last incarnation
pub record Post : Type 0 where
  pub up : Bool
  pub incarnation : ℕ

-- a structure, what each member keeps of its data set for it, and the members
pub record Ground : Type 0 where
  pub structure : ListStructure
  pub sets : Member → KeptSet
  pub posts : Member → Post

-- the group has this data set: what stands where it has none is without blocks
abbrev pub IsThere : KeptSet → Type 0
IsThere set = 1 ≤ set.contents.blocks

-- all data sets tell their bytes
abbrev pub AreTold : (Member → KeptSet) → Type 0
AreTold sets = (m : Member) → IsThere (sets m) → (sets m).contents.tells ≡ true

-- an owner may write entries: any member that is up in an active structure; in one that is being recovered the
-- recoverer alone, while the incarnation that began lives
abbrev pub stands : State → Member → Post → Bool
stands Active m post = post.up
stands Failed m post = false
stands (InRecover by i) m post = (member_number by == member_number m) && (post.up && (post.incarnation == i.number))

-- ---- bodies

-- the bytes of a body of so many bytes in these blocks, which are filled in order, the last one in part
abbrev pub cells_at : Contents → List Block → ℕ → List Byte
cells_at c [] n = []
cells_at c (b ∷ blocks) n = block_bytes c b.number (min c.block_size n) ++ cells_at c blocks (n - c.block_size)

-- the body that they read as
abbrev pub body_at : Contents → List Block → ℕ → List ℕ
body_at c blocks n = values (cells_at c blocks n)

-- what the data sets read, as the machine of messages sees it
abbrev pub outside_of : (Member → KeptSet) → Bodies
outside_of sets = λ owner blocks length. body_at (sets owner).contents blocks length

-- how many blocks a body of so many bytes takes
abbrev pub blocks_for : ℕ → ℕ → ℕ
blocks_for block_size length = (length + (block_size - 1)) / block_size

-- ---- users of a block

-- how often a block stands in a list
abbrev pub uses : Block → List Block → ℕ
uses b [] = 0
uses b (x ∷ blocks) = (if x.number == b.number then 1 else 0) + uses b blocks

-- how often a place lists this block of this owner
abbrev pub lists : Member → Block → Place → ℕ
lists owner b (Inline body) = 0
lists owner b (Offloaded other blocks length) = if member_number other == member_number owner then uses b blocks else 0

-- a number summed over entries
abbrev pub tally : (Entry → ℕ) → List Entry → ℕ
tally f [] = 0
tally f (e ∷ es) = f e + tally f es

-- how often entries list this block of this owner
abbrev pub listed : Member → Block → List Entry → ℕ
listed owner b es = tally (λ e. lists owner b e.place) es

-- how often a hand of this epoch holds this block
abbrev pub holds : ℕ → Block → Hand → ℕ
holds epoch b hand = if hand.epoch == epoch then uses b hand.blocks else 0

-- how often tasks hold this block in this epoch
abbrev pub reserved : ℕ → Block → List Hand → ℕ
reserved epoch b [] = 0
reserved epoch b (h ∷ hands) = holds epoch b h + reserved epoch b hands

-- 1 for a block that is used in a map
abbrev pub used_once : List Bool → Block → ℕ
used_once used b = if is_used used b then 1 else 0

-- 1 for a block that is free in the map of an owner that is up, where the map is of this epoch
abbrev pub free_once : ℕ → Post → KeptSet → Block → ℕ
free_once epoch post set b = if post.up && (map_stands epoch set && is_free (used_in epoch set) b) then 1 else 0
