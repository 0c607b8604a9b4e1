-- what contracts see of a data set
use Rattle.std.specs.Prelude.{◌≡◌, ◌≢◌, ℕ, ◌+◌, ◌*◌, ◌≤◌, Bool, List, [], ◌∷◌, length, map, slice_index}
use Rattle.qsg_disk.specs.Byte.{Byte, values, safe_byte, part}
use Rattle.qsg_dataset.specs.Headers.{spelling}

-- whether its device tells its bytes, these bytes, the device's count of faults, the bytes of a block, and how many
-- blocks there are
pub record Contents : Type 0 where
  pub tells : Bool
  pub bytes : List Byte
  pub faults : ℕ
  pub block_size : ℕ
  pub blocks : ℕ

-- a header, and then 1 to 8,192 blocks of this size
pub record IsSized (extent block_size blocks : ℕ) : Type 0 where
  pub some_bytes : 1 ≤ block_size
  pub some_blocks : 1 ≤ blocks
  pub most_blocks : blocks ≤ 8192
  pub exact : extent ≡ 4096 + blocks * block_size

-- some number of them
abbrev pub HasBlocks : ℕ → ℕ → Type 0
HasBlocks extent block_size = (n : ℕ) × IsSized extent block_size n

abbrev pub extent_of : Contents → ℕ
extent_of s = 4096 + s.blocks * s.block_size

-- what no call changes
pub record IsSame (old new : Contents) : Type 0 where
  pub tells : new.tells ≡ old.tells
  pub block_size : new.block_size ≡ old.block_size
  pub blocks : new.blocks ≡ old.blocks

-- where a block begins
abbrev pub offset_of : Contents → ℕ → ℕ
offset_of s block = 4096 + block * s.block_size

-- the first n bytes of a block
abbrev pub block_bytes : Contents → ℕ → ℕ → List Byte
block_bytes s block n = part (offset_of s block) n s.bytes

abbrev pub header_of : List Byte → List Byte
header_of bytes = part 0 4096 bytes

abbrev pub gate_of : List Byte → List Byte
gate_of bytes = part 0 1 bytes

-- the value now of the gate
abbrev pub gate_value : List Byte → ℕ
gate_value bytes = slice_index (values (header_of bytes)) 0

-- the header behind its gate
abbrev pub rest_of : List Byte → List Byte
rest_of bytes = part 1 4095 bytes

-- the header holds this map of so many blocks, saved in this epoch: its gate isn't 0, and the rest spells the map
pub record IsSaved (epoch blocks : ℕ) (used : List Bool) (bytes : List Byte) : Type 0 where
  pub opened : gate_value bytes ≢ 0
  pub size : length used ≡ blocks
  pub spelled : values (rest_of bytes) ≡ spelling epoch used

-- the gate is shut, and safely so
abbrev pub IsShut : List Byte → Type 0
IsShut bytes = gate_of bytes ≡ map safe_byte (0 ∷ [])

-- the rest of the header spells this map, and safely so
abbrev pub IsReady : ℕ → List Bool → List Byte → Type 0
IsReady epoch used bytes = rest_of bytes ≡ map safe_byte (spelling epoch used)
