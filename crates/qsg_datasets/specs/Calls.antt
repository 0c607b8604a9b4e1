-- what the calls on the device of a data set do to what its member keeps
use Rattle.std.specs.Prelude.{ℕ, ◌≡◌, ◌≤◌, ◌==◌, Bool, true, not, List, [], ◌∷◌, Some, None, length, replicate, false}
use Rattle.qsg_disk.specs.Byte.{EachPair, IsCut as IsCutByte}
use Rattle.qsg_dataset.specs.Contents.{IsSame, gate_value, IsSaved}
use Rattle.qsg_datasets.specs.declared.member_data_set.Found.{Found}
use Rattle.qsg_datasets.specs.Kept.{KeptSet, no_hands}

-- the member's storage is as it was, and so is the size of the data set
pub record IsStorageSame (old new : KeptSet) : Type 0 where
  pub map : new.map ≡ old.map
  pub hands : new.hands ≡ old.hands
  pub contents : IsSame old.contents new.contents

-- The power of the device goes and comes back, and the member's storage is gone.
pub record IsCut (old new : KeptSet) : Type 0 where
  pub map : new.map ≡ None
  pub hands : new.hands ≡ no_hands
  pub contents : IsSame old.contents new.contents
  pub faults : old.contents.faults ≤ new.contents.faults
  pub cut : old.contents.tells ≡ true → EachPair IsCutByte old.contents.bytes new.contents.bytes

-- A map is made that stands for an epoch: the one that the header has saved for it, or else one of free blocks.
pub record IsLoaded (epoch : ℕ) (found : Found) (old new : KeptSet) : Type 0 where
  pub used : List Bool
  pub map : new.map ≡ Some (record { epoch = epoch; used = used })
  pub size : length used ≡ old.contents.blocks
  pub hands : new.hands ≡ old.hands
  pub contents : IsSame old.contents new.contents
  pub bytes : old.contents.tells ≡ true → new.contents.bytes ≡ old.contents.bytes
  pub gate : old.contents.tells ≡ true → found.gate_open ≡ not (gate_value old.contents.bytes == 0)
  -- the header has one
  pub saved : found.has_map ≡ true → old.contents.tells ≡ true → IsSaved epoch old.contents.blocks used old.contents.bytes
  -- or it has none
  pub blank : found.has_map ≡ false → used ≡ replicate old.contents.blocks false
  pub none : found.has_map ≡ false → old.contents.tells ≡ true → (other : List Bool) → IsSaved epoch old.contents.blocks other old.contents.bytes → ⊥

-- so are those of all data sets of a member
abbrev pub AreCut : List KeptSet → List KeptSet → Type 0
AreCut [] [] = Unit {0}
AreCut (x ∷ xs) (y ∷ ys) = IsCut x y × AreCut xs ys
AreCut [] (y ∷ ys) = ⊥
AreCut (x ∷ xs) [] = ⊥
