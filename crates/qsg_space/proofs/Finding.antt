-- the lowest free blocks, found one after another
use Rattle.std.proofs.Common.{ℕ, zero, suc, ◌+◌, ◌-◌, ◌<◌, ◌≤◌, ◌≡◌, ◌∙◌, sym, ap, refl, arith, Bool, true, false, cond, List, [], ◌∷◌, ◌++◌, length, get_or, take, drop, append_assoc}
use Rattle.std.proofs.lemmas.List.{at_drop_more, length_push}
use Rattle.qsg_num.specs.declared.ids.Block.{Block}
use Rattle.qsg_space.specs.Spaces.{block_at, free_from}

-- what is found, with as many of the rest as are still wanted, is all that is wanted
pub record IsFoundSoFar (found rest all : List Block) (n : ℕ) : Type 0 where
  pub so_far : found ++ take (n - length found) rest ≡ take n all
  pub few : length found ≤ n

take-none : (n : ℕ) (bs : List Block) → bs ≡ [] → take n bs ≡ []
take-none zero bs e = refl
take-none (suc n) bs e = ap (take (suc n)) e

pub free-next : (k : ℕ) (used : List Bool) (d : Bool) → k < length used → free_from k (drop k used) ≡ cond (get_or used k d) (free_from (k + 1) (drop (k + 1) used)) (block_at k ∷ free_from (k + 1) (drop (k + 1) used))
free-next k used d h = at_drop_more (free_from k) used k d h

-- a block that is used is passed over
pub found-pass : (k : ℕ) (used : List Bool) (d : Bool) (found all : List Block) (n : ℕ) → k < length used → get_or used k d ≡ true → IsFoundSoFar found (free_from k (drop k used)) all n → IsFoundSoFar found (free_from (k + 1) (drop (k + 1) used)) all n
found-pass k used d found all n h is so =
    let e = free-next k used d h ∙ ap (λ b. cond b (free_from (k + 1) (drop (k + 1) used)) (block_at k ∷ free_from (k + 1) (drop (k + 1) used))) is in
    rw (← e) so

-- taking one more
take-one : (m : ℕ) (b : Block) (rest : List Block) → 0 < m → take m (b ∷ rest) ≡ b ∷ take (m - 1) rest
take-one zero b rest h = absurd (omega arith)
take-one (suc m) b rest h = let e : m ≡ suc m - 1 = omega arith in ap (λ i. b ∷ take i rest) e

-- one that is free is the next that is found
pub found-more : (b : Block) (found rest all : List Block) (n : ℕ) → (length found ≡ n → ⊥) → IsFoundSoFar found (b ∷ rest) all n → IsFoundSoFar (found ++ b ∷ []) rest all n
found-more b found rest all n more so =
    let l = length_push found b in
    let m : n - length (found ++ b ∷ []) ≡ n - length found - 1 = omega arith in
    record {
      so_far = rw m (append_assoc found (b ∷ []) (take (n - length found - 1) rest) ∙ ap (λ xs. found ++ xs) (sym (take-one (n - length found) b rest (omega (arith, so.few)))) ∙ so.so_far);
      few = omega (arith, so.few);
    }

pub found-one : (k : ℕ) (used : List Bool) (d : Bool) (found all : List Block) (n : ℕ) → k < length used → get_or used k d ≡ false → (length found ≡ n → ⊥) → IsFoundSoFar found (free_from k (drop k used)) all n → IsFoundSoFar (found ++ block_at k ∷ []) (free_from (k + 1) (drop (k + 1) used)) all n
found-one k used d found all n h is more so =
    let e = free-next k used d h ∙ ap (λ b. cond b (free_from (k + 1) (drop (k + 1) used)) (block_at k ∷ free_from (k + 1) (drop (k + 1) used))) is in
    found-more (block_at k) found (free_from (k + 1) (drop (k + 1) used)) all n more (rw (← e) so)
