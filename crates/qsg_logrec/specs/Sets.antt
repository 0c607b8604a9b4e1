-- sets of structures, as bytes and as lists
use Rattle.std.specs.Prelude.{◌≡◌, ℕ, ◌≤◌, ◌/◌, ◌%◌, ◌==◌, ◌&&◌, Bool, true, false, nat_lt, List, [], ◌∷◌}
use Rattle.std.specs.List.{filter, sum_by}
use Rattle.qsg_num.specs.declared.seats.StructNo.{StructNo}
use Rattle.qsg_num.specs.declared.seats.StructNo.TheVariants as s
use Rattle.qsg_num.specs.Seats.{structure_number}

-- structure s has the bit 2^(s-1)
abbrev pub bit_of : StructNo → ℕ
bit_of s.One = 1
bit_of s.Two = 2
bit_of s.Three = 4
bit_of s.Four = 8

abbrev pub has_bit : ℕ → StructNo → Bool
has_bit byte structure = (byte / bit_of structure) % 2 == 1

-- the structures whose bits a byte has
abbrev pub structures_in : ℕ → List StructNo
structures_in byte = filter (has_bit byte) (s.One ∷ s.Two ∷ s.Three ∷ s.Four ∷ [])

abbrev pub set_byte : List StructNo → ℕ
set_byte set = sum_by bit_of set

-- a byte of 1 to 15 has these structures
abbrev pub IsSet : List StructNo → Type 0
IsSet set = (byte : ℕ) × (1 ≤ byte) × (byte ≤ 15) × (set ≡ structures_in byte)

-- a structure that is above a number, and then ones that are each above the one before
abbrev pub rises : ℕ → List StructNo → Bool
rises last [] = true
rises last (structure ∷ set) = nat_lt last (structure_number structure) && rises (structure_number structure) set

abbrev pub is_rising : ℕ → List StructNo → Bool
is_rising last [] = false
is_rising last (structure ∷ set) = rises last (structure ∷ set)
