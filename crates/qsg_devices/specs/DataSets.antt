-- the data sets of a new group
use Rattle.std.specs.Prelude.{ℕ, ◌≡◌, true, List, [], ◌∷◌, ◌++◌, length, replicate, None}
use Rattle.std.specs.List.{AllByRecursion}
use Rattle.qsg_disk.specs.Byte.{zero_byte}
use Rattle.qsg_dataset.specs.Contents.{extent_of}
use Rattle.qsg_datasets.specs.Kept.{KeptSet, no_hands}
use Rattle.qsg_devices.specs.declared.shapes.Shape.{Shape}

-- a data set on a new device, without a map and without blocks taken
pub record IsNewSet (shape : Shape) (set : KeptSet) : Type 0 where
  pub block_size : set.contents.block_size ≡ shape.block_size
  pub blocks : set.contents.blocks ≡ shape.blocks
  pub zeros : set.contents.tells ≡ true → set.contents.bytes ≡ replicate (extent_of set.contents) zero_byte
  pub map : set.map ≡ None
  pub hands : set.hands ≡ no_hands

-- a member has one for each structure
abbrev pub AreNewSets : List Shape → List KeptSet → Type 0
AreNewSets [] [] = Unit {0}
AreNewSets (shape ∷ shapes) (set ∷ sets) = IsNewSet shape set × AreNewSets shapes sets
AreNewSets [] (set ∷ sets) = ⊥
AreNewSets (shape ∷ shapes) [] = ⊥

-- so has each of so many members
pub record AreNewRows (members : ℕ) (shapes : List Shape) (rows : List (List KeptSet)) : Type 0 where
  pub count : length rows ≡ members
  pub each : AllByRecursion (AreNewSets shapes) rows

-- one data set more, a new one
pub record IsOneMoreSet (shape : Shape) (old new : List KeptSet) : Type 0 where
  pub set : KeptSet
  pub is_new : IsNewSet shape set
  pub added : new ≡ old ++ set ∷ []

-- those of one member more, all new
pub record IsOneMoreRow (shapes : List Shape) (old new : List (List KeptSet)) : Type 0 where
  pub row : List KeptSet
  pub are_new : AreNewSets shapes row
  pub added : new ≡ old ++ row ∷ []
