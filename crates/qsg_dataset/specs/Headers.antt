-- the spelling of a saved map, which the header of a data set holds behind its gate
use Rattle.std.specs.Prelude.{ℕ, ◌+◌, ◌*◌, ◌-◌, ◌/◌, ◌%◌, Bool, false, ◌==◌, ◌&&◌, List, length, map, slice_index, slice_index_or, nat_le, if◌then◌else◌}
use Rattle.std.specs.Int.{to_be_bytes, bit_at, w32}
use Rattle.std.specs.List.{range_with_len}

-- 1 for a used block; there is none past the end
abbrev pub bit_of : List Bool → ℕ → ℕ
bit_of used k = if slice_index_or used k false then 1 else 0

-- eight blocks in a byte, the lowest in its lowest bit
abbrev pub bits_byte : List Bool → ℕ → ℕ
bits_byte used j =
    bit_of used (8 * j) + 2 * bit_of used (8 * j + 1) + 4 * bit_of used (8 * j + 2) + 8 * bit_of used (8 * j + 3)
    + 16 * bit_of used (8 * j + 4) + 32 * bit_of used (8 * j + 5) + 64 * bit_of used (8 * j + 6) + 128 * bit_of used (8 * j + 7)

-- the byte at an offset behind the gate: version 1 at 1, the epoch at 4 to 7, the number of blocks at 8 to 11, the
-- blocks from 16 on, and zeros
unfoldable pub header_byte : ℕ → List Bool → ℕ → ℕ
header_byte epoch used at =
    if at == 1 then 1
    else (if nat_le 4 at && nat_le at 7 then slice_index (to_be_bytes w32 epoch) (at - 4)
    else (if nat_le 8 at && nat_le at 11 then slice_index (to_be_bytes w32 (length used)) (at - 8)
    else (if nat_le 16 at then bits_byte used (at - 16) else 0)))

-- the 4,095 bytes behind the gate
unfoldable pub spelling : ℕ → List Bool → List ℕ
spelling epoch used = map (header_byte epoch used) (range_with_len 1 4095)

-- whether the bit of a block is 1 in the 4,095 bytes behind the gate
abbrev pub is_bit : List ℕ → ℕ → Bool
is_bit rest k = bit_at (slice_index rest (15 + k / 8)) (k % 8) == 1
