-- the bits of a byte of eight blocks
use Rattle.std.proofs.Common.{◌≡◌, ℕ, zero, suc, ◌+◌, ◌*◌, ◌/◌, ◌%◌, ◌<◌, ◌≤◌, Bool, true, false, cond, List, refl, ap, sym, ◌∙◌, arith}
use Rattle.std.specs.Prelude.{◌==◌, slice_index_or}
use Rattle.std.specs.Int.{bit_at}
use Rattle.qsg_dataset.specs.Headers.{bit_of, bits_byte}

cond_bound : (b : Bool) → cond b 1 0 ≤ 1
cond_bound true = omega arith
cond_bound false = omega arith

pub bit_bound : (used : List Bool) (k : ℕ) → bit_of used k ≤ 1
bit_bound used k = cond_bound (slice_index_or used k false)

cond_back : (b : Bool) → (cond b 1 0 == 1) ≡ b
cond_back true = refl
cond_back false = refl

pub bit_back : (used : List Bool) (k : ℕ) → (bit_of used k == 1) ≡ slice_index_or used k false
bit_back used k = cond_back (slice_index_or used k false)

-- a byte of eight bits
module _ (a b c d e f g h : ℕ) (a1 : a ≤ 1) (b1 : b ≤ 1) (c1 : c ≤ 1) (d1 : d ≤ 1) (e1 : e ≤ 1) (f1 : f ≤ 1) (g1 : g ≤ 1) (h1 : h ≤ 1) where
  abbrev byte : ℕ
  byte = a + 2 * b + 4 * c + 8 * d + 16 * e + 32 * f + 64 * g + 128 * h

  digit_0 : byte / 1 % 2 ≡ a
  digit_0 = omega arith

  digit_1 : byte / 2 % 2 ≡ b
  digit_1 = omega arith

  digit_2 : byte / 4 % 2 ≡ c
  digit_2 = omega arith

  digit_3 : byte / 8 % 2 ≡ d
  digit_3 = omega arith

  digit_4 : byte / 16 % 2 ≡ e
  digit_4 = omega arith

  digit_5 : byte / 32 % 2 ≡ f
  digit_5 = omega arith

  digit_6 : byte / 64 % 2 ≡ g
  digit_6 = omega arith

  digit_7 : byte / 128 % 2 ≡ h
  digit_7 = omega arith

  -- the bit at each place
  digits : (P : ℕ → ℕ) → P 0 ≡ a → P 1 ≡ b → P 2 ≡ c → P 3 ≡ d → P 4 ≡ e → P 5 ≡ f → P 6 ≡ g → P 7 ≡ h → (i : ℕ) → i < 8 → bit_at byte i ≡ P i
  digits P p0 p1 p2 p3 p4 p5 p6 p7 zero low = digit_0 ∙ sym p0
  digits P p0 p1 p2 p3 p4 p5 p6 p7 (suc zero) low = digit_1 ∙ sym p1
  digits P p0 p1 p2 p3 p4 p5 p6 p7 (suc (suc zero)) low = digit_2 ∙ sym p2
  digits P p0 p1 p2 p3 p4 p5 p6 p7 (suc (suc (suc zero))) low = digit_3 ∙ sym p3
  digits P p0 p1 p2 p3 p4 p5 p6 p7 (suc (suc (suc (suc zero)))) low = digit_4 ∙ sym p4
  digits P p0 p1 p2 p3 p4 p5 p6 p7 (suc (suc (suc (suc (suc zero))))) low = digit_5 ∙ sym p5
  digits P p0 p1 p2 p3 p4 p5 p6 p7 (suc (suc (suc (suc (suc (suc zero)))))) low = digit_6 ∙ sym p6
  digits P p0 p1 p2 p3 p4 p5 p6 p7 (suc (suc (suc (suc (suc (suc (suc zero))))))) low = digit_7 ∙ sym p7
  digits P p0 p1 p2 p3 p4 p5 p6 p7 (suc (suc (suc (suc (suc (suc (suc (suc i)))))))) low = absurd (omega (arith, low))

nothing_more : (j : ℕ) → 8 * j + 0 ≡ 8 * j
nothing_more j = omega arith

-- each bit of a byte is the one of its block
pub bit_at-bits_byte : (used : List Bool) (j i : ℕ) → i < 8 → bit_at (bits_byte used j) i ≡ bit_of used (8 * j + i)
bit_at-bits_byte used j i low =
    digits _ _ _ _ _ _ _ _ (bit_bound used (8 * j)) (bit_bound used (8 * j + 1)) (bit_bound used (8 * j + 2)) (bit_bound used (8 * j + 3)) (bit_bound used (8 * j + 4)) (bit_bound used (8 * j + 5)) (bit_bound used (8 * j + 6)) (bit_bound used (8 * j + 7))
    (λ n. bit_of used (8 * j + n)) (ap (bit_of used) (nothing_more j)) refl refl refl refl refl refl refl i low
