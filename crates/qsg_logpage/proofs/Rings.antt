-- page numbers, positions and laps
use Rattle.std.proofs.Common.{◌≡◌, ◌≢◌, ◌⊎◌, inl, inr, ℕ, ◌+◌, ◌*◌, ◌/◌, ◌%◌, ◌<◌, ◌≤◌, subst, arith}
use Rattle.std.proofs.Math.Nat.{div-add-mod, mul-le-mul_left, mul-suc, add-mod_right, add-div_right}
use Rattle.std.proofs.lemmas.Bool.{cases_lt}

-- two numbers less than a lap apart have two positions
pub positions_apart : (a b size : ℕ) → a < b → b < a + size → a % size ≢ b % size
positions_apart a b size less near same = elim (cases_lt (a / size) (b / size)) [
  | inl below ↦ over (subst (λ (n : ℕ). n ≤ size * (b / size)) (mul-suc size (a / size)) (mul-le-mul_left size (omega arith)))
  | inr above ↦ under (mul-le-mul_left size above)
]
  where
    sums : (x y r s : ℕ) → x + r ≡ a → y + s ≡ b → r ≡ s → (y ≤ x) ⊎ (x + size ≤ y) → ⊥
    sums x y r s p q e (inl le) = omega arith
    sums x y r s p q e (inr le) = omega arith

    over : size * (a / size) + size ≤ size * (b / size) → ⊥
    over le = sums (size * (a / size)) (size * (b / size)) (a % size) (b % size) (div-add-mod a size) (div-add-mod b size) same (inr le)

    under : size * (b / size) ≤ size * (a / size) → ⊥
    under le = sums (size * (a / size)) (size * (b / size)) (a % size) (b % size) (div-add-mod a size) (div-add-mod b size) same (inl le)

pub same_position : (k size : ℕ) → (k + size) % size ≡ k % size
same_position k size = add-mod_right k size

pub next_lap : (k size : ℕ) → 0 < size → (k + size) / size ≡ k / size + 1
next_lap k size some = add-div_right k some
