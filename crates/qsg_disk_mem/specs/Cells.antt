-- the bytes of a device in memory
use Rattle.std.specs.Prelude.{ℕ, ◌+◌, List, [], ◌∷◌, Bool, if◌then◌else◌, Option, Some, None, length, map, slice_index, unwrap_or}
use Rattle.std.specs.List.{range_with_len}
use Rattle.qsg_disk.specs.Byte.{Byte}
use Rattle.qsg_disk_mem.specs.Bits.{is_marked}
use Rattle.qsg_disk_mem.specs.Cut.{chosen}

-- a byte: its value now and, where it is in doubt, its value at the last sync or cut
pub record Cell : Type 0 where
  pub now : ℕ
  pub before : Option ℕ

abbrev pub now_of : Cell → ℕ
now_of cell = cell.now

-- what a device tells of it: a byte in doubt isn't safe
abbrev pub byte_of : Cell → Byte
byte_of cell = record { value = cell.now; safe = elim cell.before [ None ↦ Some cell.now | Some old ↦ None ] }

-- a byte of a new device
abbrev pub zero_cell : Cell
zero_cell = record { now = 0; before = None }

-- in doubt, with the older old value if there was one
abbrev pub doubted : Cell → Cell
doubted cell = record { now = cell.now; before = Some (unwrap_or cell.before cell.now) }

-- in doubt, with a new value
abbrev pub overwritten : ℕ → Cell → Cell
overwritten value cell = record { now = value; before = Some (unwrap_or cell.before cell.now) }

abbrev pub all_overwritten : List ℕ → List Cell → List Cell
all_overwritten (value ∷ values) (cell ∷ cells) = overwritten value cell ∷ all_overwritten values cells
all_overwritten values cells = []

-- no longer in doubt
abbrev pub settled : Cell → Cell
settled cell = record { now = cell.now; before = None }

-- the byte at an offset after a cut
abbrev pub after_cut : ℕ → ℕ → Cell → Cell
after_cut pick at cell = record { now = elim cell.before [ None ↦ cell.now | Some old ↦ chosen pick at old cell.now ]; before = None }

-- the bytes from an offset on after a cut
abbrev pub all_cut : ℕ → ℕ → List Cell → List Cell
all_cut pick at [] = []
all_cut pick at (cell ∷ cells) = after_cut pick at cell ∷ all_cut pick (at + 1) cells

-- the old value at an offset, from the old values and the marks of doubt
abbrev pub before_at : List ℕ → List ℕ → ℕ → Option ℕ
before_at kept doubt k = if is_marked doubt k then Some (slice_index kept k) else None

abbrev pub cell_at : List ℕ → List ℕ → List ℕ → ℕ → Cell
cell_at values kept doubt k = record { now = slice_index values k; before = before_at kept doubt k }

abbrev pub cells_of : List ℕ → List ℕ → List ℕ → List Cell
cells_of values kept doubt = map (cell_at values kept doubt) (range_with_len 0 (length values))
