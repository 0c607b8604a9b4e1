-- what the steps do that save a map, and those that shut the gate
use Rattle.std.specs.Prelude.{◌≡◌, ℕ, zero, suc, Bool, List, [], ◌∷◌, length, map, Result, OnOk}
use Rattle.qsg_disk.specs.Byte.{Byte, written, synced, part, AreUnsafe, Beside, EachPair, IsKeptOrSynced}
use Rattle.qsg_dataset.specs.Headers.{spelling}

-- a write: whether it succeeds or not, nothing else changes, and what it writes isn't safe
pub record Writes {T E : Type 0} (at : ℕ) (values : List ℕ) (result : Result T E) (old new : List Byte) : Type 0 where
  pub beside : Beside at (length values) old new
  pub torn : AreUnsafe (part at (length values) new)
  pub written : OnOk result (part at (length values) new ≡ map written values)

-- a sync: whether it succeeds or not, no value changes and what was safe stays so; where it succeeds all is safe
pub record Syncs {T E : Type 0} (result : Result T E) (old new : List Byte) : Type 0 where
  pub kept : EachPair IsKeptOrSynced old new
  pub synced : OnOk result (new ≡ map synced old)

-- 1: writes the map behind the gate. 2: syncs. 3: opens the gate. 4: syncs
abbrev pub SaveStep : {T E : Type 0} → ℕ → ℕ → List Bool → Result T E → List Byte → List Byte → Type 0
SaveStep zero epoch used result old new = ⊥
SaveStep (suc zero) epoch used result old new = Writes 1 (spelling epoch used) result old new
SaveStep (suc (suc zero)) epoch used result old new = Syncs result old new
SaveStep (suc (suc (suc zero))) epoch used result old new = Writes 0 (1 ∷ []) result old new
SaveStep (suc (suc (suc (suc n)))) epoch used result old new = Syncs result old new

-- 1: shuts the gate. 2: syncs
abbrev pub ShutStep : {T E : Type 0} → ℕ → Result T E → List Byte → List Byte → Type 0
ShutStep zero result old new = ⊥
ShutStep (suc zero) result old new = Writes 0 (0 ∷ []) result old new
ShutStep (suc (suc n)) result old new = Syncs result old new
