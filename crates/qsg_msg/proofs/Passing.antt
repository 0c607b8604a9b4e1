-- how many bytes from the front on pass a test
use Rattle.std.proofs.Common.{◌≡◌, ℕ, zero, suc, ◌+◌, ◌≤◌, Bool, true, false, List, [], ◌∷◌, ◌++◌, length, take, refl, ap, ◌∙◌, arith}
use Rattle.std.specs.List.{prefix_len, list_all}
use Rattle.std.proofs.lemmas.List.Sums.{prefix_len-le-length}

pub passes_within : {X : Type 0} (p : X → Bool) (xs : List X) → prefix_len p xs ≤ length xs
passes_within p xs = prefix_len-le-length p xs

-- where as many pass as there may be, all do
pub all_pass : (p : ℕ → Bool) (n : ℕ) (xs : List ℕ) → length xs ≤ n → n ≤ prefix_len p xs → (length xs ≡ n) × (list_all p xs ≡ true)
all_pass p n [] fits most = (omega (arith, most, fits), refl)
all_pass p zero (x ∷ xs) fits most = absurd (omega (arith, fits))
all_pass p (suc n) (x ∷ xs) fits most = by_test (all_pass p n xs) (p x) refl
  where
    by_test : (length xs ≤ n → n ≤ prefix_len p xs → (length xs ≡ n) × (list_all p xs ≡ true)) → (b : Bool) → p x ≡ b → (length (x ∷ xs) ≡ suc n) × (list_all p (x ∷ xs) ≡ true)
    by_test step true e =
        let now = rw e at most in
        let rest = step (omega (arith, fits)) (omega (arith, now)) in
        (omega (arith, rest.0), rw (e, rest.1) refl)
    by_test step false e =
        let now = rw e at most in
        absurd (omega (arith, now))

-- where all pass, as many do as there are
pub passes_all : (p : ℕ → Bool) (xs : List ℕ) → list_all p xs ≡ true → prefix_len p xs ≡ length xs
passes_all p [] all = refl
passes_all p (x ∷ xs) all = by_test (passes_all p xs) (p x) refl
  where
    by_test : (list_all p xs ≡ true → prefix_len p xs ≡ length xs) → (b : Bool) → p x ≡ b → prefix_len p (x ∷ xs) ≡ length (x ∷ xs)
    by_test step true e =
        let now = rw e at all in
        rw e (omega (arith, step now))
    by_test step false e =
        let now = rw e at all in
        absurd cc

-- the bytes that pass do so
pub front_passes : (p : ℕ → Bool) (xs : List ℕ) → list_all p (take (prefix_len p xs) xs) ≡ true
front_passes p [] = refl
front_passes p (x ∷ xs) = by_test (front_passes p xs) (p x) refl
  where
    by_test : list_all p (take (prefix_len p xs) xs) ≡ true → (b : Bool) → p x ≡ b → list_all p (take (prefix_len p (x ∷ xs)) (x ∷ xs)) ≡ true
    by_test step true e =
        let one_more : 1 + prefix_len p xs ≡ suc (prefix_len p xs) = omega arith in
        rw e (ap (λ n. list_all p (take n (x ∷ xs))) one_more ∙ rw e step)
    by_test step false e = rw e refl

-- a front that passes is within what passes
pub front_within : (p : ℕ → Bool) (g b : List ℕ) → list_all p g ≡ true → length g ≤ prefix_len p (g ++ b)
front_within p [] b all = omega arith
front_within p (x ∷ g) b all = by_test (front_within p g b) (p x) refl
  where
    by_test : (list_all p g ≡ true → length g ≤ prefix_len p (g ++ b)) → (c : Bool) → p x ≡ c → length (x ∷ g) ≤ prefix_len p (x ∷ (g ++ b))
    by_test step true e =
        let now = rw e at all in
        rw e (omega (arith, step now))
    by_test step false e =
        let now = rw e at all in
        absurd cc
