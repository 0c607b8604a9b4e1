-- the loops that spell a map and read one
use Rattle.std.proofs.Common.{◌≡◌, ℕ, zero, suc, ◌+◌, ◌<◌, ◌≤◌, Bool, true, false, List, length, set, get_or, refl, ap, sym, ◌∙◌, arith, inl, inr, length-set, get_or-set_same}
use Rattle.std.specs.Prelude.{slice_index, slice_index_or, replicate}
use Rattle.std.proofs.lemmas.Bool.{cases_eq}
use Rattle.std.proofs.lemmas.List.{get_or-set_other}
use Rattle.qsg_dataset.specs.Headers.{header_byte, is_bit}

-- the first k bytes are those of the spelling
abbrev pub IsFilled : ℕ → List Bool → List ℕ → ℕ → Type 0
IsFilled epoch used rest k = (length rest ≡ 4095) × ((at : ℕ) → at < k → slice_index rest at ≡ header_byte epoch used (at + 1))

pub filled_more : (epoch : ℕ) (used : List Bool) (rest : List ℕ) (k x : ℕ) → IsFilled epoch used rest k → k < 4095 → x ≡ header_byte epoch used (k + 1) → IsFilled epoch used (set rest k x) (k + 1)
filled_more epoch used rest k x so_far within is = (
  length-set rest k x ∙ so_far.0,
  λ at low. elim (cases_eq at k) [
    | inl same ↦ ap (λ (n : ℕ). get_or (set rest k x) n 0) same ∙ get_or-set_same rest k x 0 (omega (arith, so_far.0)) ∙ is ∙ ap (λ (n : ℕ). header_byte epoch used (n + 1)) (sym same)
    | inr apart ↦ get_or-set_other rest k at x 0 apart ∙ so_far.1 at (omega (arith, low, apart))
  ],
)

-- the first k blocks are as their bits say, and the others are free
abbrev pub IsRead : List ℕ → List Bool → ℕ → ℕ → Type 0
IsRead rest read n k = (length read ≡ n) × ((j : ℕ) → j < k → slice_index_or read j false ≡ is_bit rest j) × ((j : ℕ) → k ≤ j → slice_index_or read j false ≡ false)

replicate-false : (n j : ℕ) → slice_index_or (replicate n false) j false ≡ false
replicate-false zero j = refl
replicate-false (suc n) zero = refl
replicate-false (suc n) (suc j) = replicate-false n j

pub none_read : (rest : List ℕ) (read : List Bool) (n : ℕ) → length read ≡ n → read ≡ replicate n false → IsRead rest read n 0
none_read rest read n size free =
    (size, (λ j low. absurd (omega (arith, low))), λ j late. ap (λ (l : List Bool). slice_index_or l j false) free ∙ replicate-false n j)

pub claimed_more : (rest : List ℕ) (read : List Bool) (n k : ℕ) → IsRead rest read n k → k < n → is_bit rest k ≡ true → IsRead rest (set read k true) n (k + 1)
claimed_more rest read n k so_far within bit = (
  length-set read k true ∙ so_far.0,
  (λ j low. elim (cases_eq j k) [
    | inl same ↦ ap (λ (m : ℕ). get_or (set read k true) m false) same ∙ get_or-set_same read k true false (omega (arith, so_far.0, within)) ∙ sym bit ∙ ap (is_bit rest) (sym same)
    | inr apart ↦ get_or-set_other read k j true false apart ∙ so_far.1 j (omega (arith, low, apart))
  ]),
  λ j late. get_or-set_other read k j true false (λ same. omega (arith, late, same)) ∙ so_far.2 j (omega (arith, late)),
)

pub passed_more : (rest : List ℕ) (read : List Bool) (n k : ℕ) → IsRead rest read n k → is_bit rest k ≡ false → IsRead rest read n (k + 1)
passed_more rest read n k so_far bit = (
  so_far.0,
  (λ j low. elim (cases_eq j k) [
    | inl same ↦ so_far.2 j (omega (arith, same)) ∙ sym bit ∙ ap (is_bit rest) (sym same)
    | inr apart ↦ so_far.1 j (omega (arith, low, apart))
  ]),
  λ j late. so_far.2 j (omega (arith, late)),
)
