-- places in a list of entries
use Rattle.std.specs.Prelude.{◌≡◌, ℕ, ◌<◌, Bool, true, List, length, Option, Some, None, find, slice_index_or, slice_set}
use Rattle.std.specs.List.{remove}
use Rattle.qsg_lists.specs.declared.parts.Entry.{Entry}

-- the first entry that passes stands at the place
pub record IsFound (passes : Entry → Bool) (entries : List Entry) (place : ℕ) : Type 0 where
  pub within : place < length entries
  pub found : (d : Entry) → find passes entries ≡ Some (slice_index_or entries place d)
  pub passed : (d : Entry) → passes (slice_index_or entries place d) ≡ true

-- the list with another element at a place, or without it
abbrev pub replaced : {X : Type 0} → ℕ → Option X → List X → List X
replaced i None xs = remove xs i
replaced i (Some y) xs = slice_set xs i y
