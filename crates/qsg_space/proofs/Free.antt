-- which blocks are found free
use Rattle.std.proofs.Common.{ℕ, zero, suc, ◌+◌, ◌<◌, ◌≤◌, ◌≡◌, refl, arith, Bool, true, false, not, cond, List, [], ◌∷◌, length, get_or, map}
use Rattle.std.specs.List.{count_by}
use Rattle.std.specs.List.Sorted.{IsStrictlyIncreasing}
use Rattle.std.proofs.lemmas.List.Sums.{sum_by-cons}
use Rattle.std.proofs.lemmas.Bool.{eq-eqb, ne_eqb}
use Rattle.qsg_num.specs.declared.ids.Block.{Block}
use Rattle.qsg_space.specs.Spaces.{free_from, has_block, number_of}

pub length-free_from : (k : ℕ) (used : List Bool) → length (free_from k used) ≡ count_by not used
length-free_from k [] = refl
length-free_from k (true ∷ used) =
    let rest = length-free_from (k + 1) used in
    let more = sum_by-cons (λ x. cond (not x) 1 0) true used in
    omega (arith, rest, more)
length-free_from k (false ∷ used) =
    let rest = length-free_from (k + 1) used in
    let more = sum_by-cons (λ x. cond (not x) 1 0) false used in
    omega (arith, rest, more)

-- none stands below the first number
none-below : (b : Block) (k : ℕ) (used : List Bool) → b.number < k → has_block b (free_from k used) ≡ false
none-below b k [] h = refl
none-below b k (true ∷ used) h = none-below b (k + 1) used (omega arith)
none-below b k (false ∷ used) h = rw (ne_eqb k b.number (λ e. omega (arith, e, h))) (none-below b (k + 1) used (omega arith))

pub has-free_from : (b : Block) (k n : ℕ) (used : List Bool) → b.number ≡ k + n → has_block b (free_from k used) ≡ not (get_or used n true)
has-free_from b k n [] e = refl
has-free_from b k zero (true ∷ used) e = none-below b (k + 1) used (omega arith)
has-free_from b k zero (false ∷ used) e = rw (eq-eqb k b.number (omega arith)) refl
has-free_from b k (suc n) (true ∷ used) e = has-free_from b (k + 1) n used (omega arith)
has-free_from b k (suc n) (false ∷ used) e = rw (ne_eqb k b.number (λ s. omega (arith, e, s))) (has-free_from b (k + 1) n used (omega arith))

-- the first is not below the first number
first-from : (k : ℕ) (used : List Bool) → 0 < length (map number_of (free_from k used)) → k ≤ get_or (map number_of (free_from k used)) 0 0
first-from k [] h = absurd (omega arith)
first-from k (true ∷ used) h = let rest = first-from (k + 1) used h in omega (arith, rest)
first-from k (false ∷ used) h = omega arith

pub free_from-rises : (k : ℕ) (used : List Bool) → IsStrictlyIncreasing (map number_of (free_from k used))
free_from-rises k [] j h = absurd (omega arith)
free_from-rises k (true ∷ used) j h = free_from-rises (k + 1) used j h
free_from-rises k (false ∷ used) zero h =
    let rest = first-from (k + 1) used (omega arith) in
    omega (arith, rest)
free_from-rises k (false ∷ used) (suc j) h =
    let rest = free_from-rises (k + 1) used j (omega arith) in
    let e : suc j + 1 ≡ suc (j + 1) = omega arith in
    rw e rest
