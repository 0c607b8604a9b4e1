-- what members keep of their data sets, by the numbers of members, structures and tasks
use Rattle.std.specs.Prelude.{ℕ, ◌≡◌, ◌≤◌, ◌-◌, ◌==◌, Bool, true, false, if◌then◌else◌, List, [], replicate, length, map, take, Option, Some, None, IfSome, slice_index_or, slice_set}
use Rattle.qsg_num.specs.declared.seats.Member.{Member}
use Rattle.qsg_num.specs.declared.seats.StructNo.{StructNo}
use Rattle.qsg_num.specs.declared.seats.TaskNo.{TaskNo}
use Rattle.qsg_num.specs.declared.ids.Block.{Block}
use Rattle.qsg_num.specs.Seats.{member_number, structure_number, task_number}
use Rattle.qsg_space.specs.Spaces.{free_blocks, marked}
use Rattle.qsg_dataset.specs.Contents.{Contents, IsSized, extent_of}
use Rattle.qsg_datasets.specs.declared.member_data_set.KeptMap.{KeptMap}
use Rattle.qsg_datasets.specs.declared.member_data_set.Hand.{Hand}

-- what a member keeps of its data set for a structure: what is in the data set, the map of its used blocks, if there is
-- one, and the blocks that each task has taken
pub record KeptSet : Type 0 where
  pub contents : Contents
  pub map : Option KeptMap
  pub hands : List Hand

-- what stands at numbers that no member or no structure has: a data set without blocks
abbrev pub no_contents : Contents
no_contents = record { tells = false; bytes = []; faults = 0; block_size = 1; blocks = 0 }

abbrev pub no_hand : Hand
no_hand = record { epoch = 0; blocks = [] }

abbrev pub no_set : KeptSet
no_set = record { contents = no_contents; map = None; hands = [] }

abbrev pub no_hands : List Hand
no_hands = replicate 5 no_hand

-- ---- the data sets of a group: of each member, one for each structure

abbrev pub sets_of : Member → List (List KeptSet) → List KeptSet
sets_of m sets = slice_index_or sets (member_number m - 1) []

abbrev pub with_sets_of : Member → List KeptSet → List (List KeptSet) → List (List KeptSet)
with_sets_of m row sets = slice_set sets (member_number m - 1) row

-- of those of a member, the one for a structure
abbrev pub set_for : StructNo → List KeptSet → KeptSet
set_for s row = slice_index_or row (structure_number s - 1) no_set

abbrev pub with_set_for : StructNo → KeptSet → List KeptSet → List KeptSet
with_set_for s set row = slice_set row (structure_number s - 1) set

abbrev pub set_in : Member → StructNo → List (List KeptSet) → KeptSet
set_in m s sets = set_for s (sets_of m sets)

abbrev pub with_set : Member → StructNo → KeptSet → List (List KeptSet) → List (List KeptSet)
with_set m s set sets = with_sets_of m (with_set_for s set (sets_of m sets)) sets

-- the group has the data set of this member for this structure
pub record HasSet (m : Member) (s : StructNo) (sets : List (List KeptSet)) : Type 0 where
  pub member : member_number m ≤ length sets
  pub structure : structure_number s ≤ length (sets_of m sets)

-- ---- the map of used blocks

-- the map stands for this epoch of its structure
abbrev pub is_of_epoch : ℕ → Option KeptMap → Bool
is_of_epoch epoch None = false
is_of_epoch epoch (Some m) = m.epoch == epoch

abbrev pub stands : ℕ → KeptSet → Bool
stands epoch set = is_of_epoch epoch set.map

-- the used blocks by the map that stands for an epoch; where none does, all are free
abbrev pub used_by : ℕ → ℕ → Option KeptMap → List Bool
used_by epoch blocks None = replicate blocks false
used_by epoch blocks (Some m) = if m.epoch == epoch then m.used else replicate blocks false

abbrev pub used_in : ℕ → KeptSet → List Bool
used_in epoch set = used_by epoch set.contents.blocks set.map

abbrev pub with_map : ℕ → List Bool → KeptSet → KeptSet
with_map epoch used set = record set { map = Some (record { epoch = epoch; used = used }) }

-- blocks are free again in the map, where it stands for that epoch
abbrev pub freed_in : ℕ → List Block → Option KeptMap → Option KeptMap
freed_in epoch blocks None = None
freed_in epoch blocks (Some m) = Some (if m.epoch == epoch then record m { used = marked false blocks m.used } else m)

-- ---- the blocks that a task has taken

abbrev pub hand_of : TaskNo → KeptSet → Hand
hand_of t set = slice_index_or set.hands (task_number t) no_hand

abbrev pub with_hand : TaskNo → Hand → KeptSet → KeptSet
with_hand t hand set = record set { hands = slice_set set.hands (task_number t) hand }

-- ---- what calls make of a data set

-- the blocks that a task is given for an epoch: the lowest free ones
abbrev pub given : ℕ → ℕ → KeptSet → List Block
given epoch n set = take n (free_blocks (used_in epoch set))

-- the map after so many blocks are taken for an epoch
abbrev pub taken_in : ℕ → ℕ → List Bool → Option KeptMap
taken_in epoch n used = Some (record { epoch = epoch; used = marked true (take n (free_blocks used)) used })

-- a task has taken so many blocks for an epoch, from the map that stands for it or else from a new one
abbrev pub taken : TaskNo → ℕ → ℕ → KeptSet → KeptSet
taken t epoch n set = with_hand t (record { epoch = epoch; blocks = given epoch n set }) (with_map epoch (marked true (given epoch n set) (used_in epoch set)) set)

-- blocks are free again
abbrev pub freed : ℕ → List Block → KeptSet → KeptSet
freed epoch blocks set = record set { map = freed_in epoch blocks set.map }

-- the blocks that a task has taken are free again
abbrev pub given_back : TaskNo → KeptSet → KeptSet
given_back t set = with_hand t no_hand (freed (hand_of t set).epoch (hand_of t set).blocks set)

-- the blocks of an entry are used in the map
abbrev pub claimed_in : List Block → Option KeptMap → Option KeptMap
claimed_in blocks None = None
claimed_in blocks (Some m) = Some (record m { used = marked true blocks m.used })

abbrev pub claimed : List Block → KeptSet → KeptSet
claimed blocks set = record set { map = claimed_in blocks set.map }

-- there is no map
abbrev pub unmapped : KeptSet → KeptSet
unmapped set = record set { map = None }

-- its member's storage is gone
abbrev pub emptied : KeptSet → KeptSet
emptied set = record set { map = None; hands = no_hands }

-- ---- what each keeps

-- There are five tasks, and the map is of as many blocks as the data set has.
pub record IsKept (set : KeptSet) : Type 0 where
  pub sized : IsSized (extent_of set.contents) set.contents.block_size set.contents.blocks
  pub five : length set.hands ≡ 5
  pub map : IfSome set.map (λ m. length m.used ≡ set.contents.blocks)

-- ---- of a member, all

abbrev pub emptied_all : Member → List (List KeptSet) → List (List KeptSet)
emptied_all m sets = with_sets_of m (map emptied (sets_of m sets)) sets
