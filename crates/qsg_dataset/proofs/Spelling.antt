-- the spelling of a saved map, byte by byte
use Rattle.std.proofs.Common.{◌≡◌, ℕ, zero, suc, ◌+◌, ◌*◌, ◌-◌, ◌/◌, ◌%◌, ◌^◌, ◌<◌, ◌≤◌, Bool, false, List, length, get_or, refl, ap, sym, ◌∙◌, arith}
use Rattle.std.specs.Prelude.{slice_index, slice_index_or, ◌==◌, ◌&&◌, nat_le, if◌then◌else◌}
use Rattle.std.specs.Int.{to_be_bytes, from_be_bytes, bit_at, w32}
use Rattle.std.proofs.lemmas.Bool.Decides.{nat_tests}
use Rattle.std.proofs.lemmas.Nat.{from_be_bytes-to_be_bytes_4}
use Rattle.std.proofs.lemmas.List.{ext_get_or}
use Rattle.std.proofs.lemmas.List.FromFn.{length-map-range_with_len, get_or-map-range_with_len}
use Rattle.qsg_dataset.specs.Headers.{bit_of, bits_byte, header_byte, spelling, is_bit}
use Rattle.qsg_dataset.proofs.Bits.{bit_back, bit_at-bits_byte}

pub length-spelling : (epoch : ℕ) (used : List Bool) → length (spelling epoch used) ≡ 4095
unfolding spelling
length-spelling epoch used = length-map-range_with_len (header_byte epoch used) 1 4095

pub get_or-spelling : (epoch : ℕ) (used : List Bool) (i : ℕ) → i < 4095 → get_or (spelling epoch used) i 0 ≡ header_byte epoch used (i + 1)
unfolding spelling
get_or-spelling epoch used i within = get_or-map-range_with_len (header_byte epoch used) 1 4095 i (i + 1) 0 within (omega arith)

-- bytes that are each the one of the spelling
pub spelling_filled : (rest : List ℕ) (epoch : ℕ) (used : List Bool) → length rest ≡ 4095 → ((at : ℕ) → at < 4095 → slice_index rest at ≡ header_byte epoch used (at + 1)) → rest ≡ spelling epoch used
spelling_filled rest epoch used size each =
    ext_get_or 0 rest (spelling epoch used) (size ∙ sym (length-spelling epoch used))
    (λ i within. let low : i < 4095 = omega (arith, size) in each i low ∙ sym (get_or-spelling epoch used i low))

-- at 16 or later the blocks stand
late : (at x y z w v : ℕ) → 16 ≤ at → (if at == 1 then x else (if nat_le 4 at && nat_le at 7 then y else (if nat_le 8 at && nat_le at 11 then z else (if nat_le 16 at then w else v)))) ≡ w
late at x y z w v far = grind (arith, nat_tests)

header_byte-bits : (epoch : ℕ) (used : List Bool) (at : ℕ) → 16 ≤ at → header_byte epoch used at ≡ bits_byte used (at - 16)
unfolding header_byte
header_byte-bits epoch used at far = late at 1 (slice_index (to_be_bytes w32 epoch) (at - 4)) (slice_index (to_be_bytes w32 (length used)) (at - 8)) (bits_byte used (at - 16)) 0 far

-- the bit of a block in its spelling
pub is_bit-spelling : (epoch : ℕ) (used : List Bool) (k : ℕ) → k < 8192 → is_bit (spelling epoch used) k ≡ slice_index_or used k false
is_bit-spelling epoch used k within =
    let place : 15 + k / 8 + 1 - 16 ≡ k / 8 = omega arith in
    let parts : 8 * (k / 8) + k % 8 ≡ k = omega arith in
    let byte : slice_index (spelling epoch used) (15 + k / 8) ≡ bits_byte used (k / 8) =
    get_or-spelling epoch used (15 + k / 8) (omega arith)
    ∙ header_byte-bits epoch used (15 + k / 8 + 1) (omega arith)
    ∙ ap (bits_byte used) place in
    ap (λ (n : ℕ). bit_at n (k % 8) == 1) byte
    ∙ ap (λ (n : ℕ). n == 1) (bit_at-bits_byte used (k / 8) (k % 8) (omega arith) ∙ ap (bit_of used) parts)
    ∙ bit_back used k

-- the map that is read from the bits of a spelling is the map that was spelled
pub read_back : (epoch : ℕ) (rest : List ℕ) (used read : List Bool) → length read ≡ length used → length used ≤ 8192 → rest ≡ spelling epoch used → ((k : ℕ) → k < length used → slice_index_or read k false ≡ is_bit rest k) → read ≡ used
read_back epoch rest used read size most spelled bits =
    ext_get_or false read used size
    (λ k within. let low : k < length used = omega (arith, size) in
    bits k low ∙ ap (λ (r : List ℕ). is_bit r k) spelled ∙ is_bit-spelling epoch used k (omega arith))

pub one_map : (e f : ℕ) (used other : List Bool) → length used ≡ length other → length used ≤ 8192 → spelling e used ≡ spelling f other → used ≡ other
one_map e f used other size most same =
    read_back f (spelling f other) other used size (omega (arith, size)) refl
    (λ k within. sym (is_bit-spelling e used k (omega (arith, size))) ∙ ap (λ (r : List ℕ). is_bit r k) same)

header_byte-epoch : (epoch : ℕ) (used : List Bool) (i : ℕ) → i < 4 → header_byte epoch used (i + 4) ≡ slice_index (to_be_bytes w32 epoch) i
unfolding header_byte
header_byte-epoch epoch used zero low = refl
header_byte-epoch epoch used (suc zero) low = refl
header_byte-epoch epoch used (suc (suc zero)) low = refl
header_byte-epoch epoch used (suc (suc (suc zero))) low = refl
header_byte-epoch epoch used (suc (suc (suc (suc i)))) low = absurd (omega (arith, low))

-- the bytes of the epoch in a spelling
epoch_byte : (e f : ℕ) (used other : List Bool) → spelling e used ≡ spelling f other → (i : ℕ) → i < 4 → get_or (to_be_bytes w32 e) i 0 ≡ get_or (to_be_bytes w32 f) i 0
epoch_byte e f used other same i low =
    let next : i + 4 ≡ i + 3 + 1 = omega arith in
    sym (header_byte-epoch e used i low)
    ∙ ap (header_byte e used) next
    ∙ sym (get_or-spelling e used (i + 3) (omega arith))
    ∙ ap (λ (l : List ℕ). get_or l (i + 3) 0) same
    ∙ get_or-spelling f other (i + 3) (omega arith)
    ∙ sym (ap (header_byte f other) next)
    ∙ header_byte-epoch f other i low

pub one_epoch : (e f : ℕ) (used other : List Bool) → e < 2 ^ 32 → f < 2 ^ 32 → spelling e used ≡ spelling f other → e ≡ f
one_epoch e f used other small low same =
    sym (from_be_bytes-to_be_bytes_4 e small)
    ∙ ap (from_be_bytes w32) (ext_get_or 0 (to_be_bytes w32 e) (to_be_bytes w32 f) refl (epoch_byte e f used other same))
    ∙ from_be_bytes-to_be_bytes_4 f low
