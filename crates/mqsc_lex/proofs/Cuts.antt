-- cutting a text before a byte that stops it
use Rattle.std.proofs.Common.{◌≡◌, ℕ, zero, suc, ◌+◌, ◌<◌, ◌≤◌, Bool, true, false, not, cond, List, [], ◌∷◌, length, get_or, take, drop, Some, None, refl, ap, subst, arith, add-one, IsUtf8}
use Rattle.std.specs.Prelude.{nat_lt, unwrap_or}
use Rattle.std.specs.List.{position, position_or_len, prefix_len}
use Rattle.std.specs.Str.{IsCharBoundary}
use Rattle.std.proofs.lemmas.Bool.Decides.{nat_tests}
use Rattle.std.proofs.lemmas.List.Sums.{prefix_len-le-length, prefix_len_stops, prefix_len_passes}
use Rattle.std.proofs.lemmas.Str.{IsCharBoundary-after_ascii, IsCharBoundary-start}
use Rattle.mqsc_lex.specs.Texts.{is_blank, is_plain, is_apostrophe}
use Rattle.mqsc_lex.specs.Reading.{IsCut}

pub end_is : (q : ℕ → Bool) (bs : List ℕ) → unwrap_or (position q bs) (length bs) ≡ position_or_len q bs
end_is q bs = by (nat_lt (position_or_len q bs) (length bs)) refl
  where
    by : (t : Bool) → nat_lt (position_or_len q bs) (length bs) ≡ t → unwrap_or (cond t (Some (position_or_len q bs)) None) (length bs) ≡ position_or_len q bs
    by true e = refl
    by false e = let h = prefix_len-le-length (λ b. not (q b)) bs in grind (arith, nat_tests)

-- what passes is what doesn't stop
abbrev pub AreOpposite : (ℕ → Bool) → (ℕ → Bool) → Type 0
AreOpposite p q = (b : ℕ) → p b ≡ not (q b)

pub cut_is : (p q : ℕ → Bool) → AreOpposite p q → (bs : List ℕ) → IsCut p bs (take (position_or_len q bs) bs) (drop (position_or_len q bs) bs)
cut_is p q o [] = record { split = refl; all = refl; ends = tt }
cut_is p q o (b ∷ bs) = by (cut_is p q o bs) (q b) refl
  where
    on : (n : ℕ) → p b ≡ true → IsCut p bs (take n bs) (drop n bs) → IsCut p (b ∷ bs) (take (suc n) (b ∷ bs)) (drop (suc n) (b ∷ bs))
    on n t c = record { split = ap (λ l. b ∷ l) c.split; all = rw (t, c.all) refl; ends = c.ends }

    by : IsCut p bs (take (position_or_len q bs) bs) (drop (position_or_len q bs) bs) → (t : Bool) → q b ≡ t → IsCut p (b ∷ bs) (take (position_or_len q (b ∷ bs)) (b ∷ bs)) (drop (position_or_len q (b ∷ bs)) (b ∷ bs))
    by rest true e = rw e (record { split = refl; all = refl; ends = rw (o b, e) refl })
    by rest false e =
        let k : 1 + prefix_len (λ x. not (q x)) bs ≡ suc (prefix_len (λ x. not (q x)) bs) = omega arith in
        rw (e, k) (on (position_or_len q bs) (rw (o b, e) refl) rest)

-- A text may be cut before an ASCII byte that stops it,
pub boundary-before : (q : ℕ → Bool) → ((b : ℕ) → q b ≡ true → b < 128) → (bs : List ℕ) → IsCharBoundary bs (position_or_len q bs)
boundary-before q low bs = (
  prefix_len-le-length (λ b. not (q b)) bs,
  λ lt h. let s = prefix_len_stops (λ b. not (q b)) bs 0 lt in let k = low (get_or bs (position_or_len q bs) 0) (not-false _ s) in absurd (omega arith),
)
  where
    not-false : (t : Bool) → not t ≡ false → t ≡ true
    not-false true e = refl
    not-false false e = absurd cc

-- and behind ASCII bytes that pass.
pub boundary-behind : (q : ℕ → Bool) → ((b : ℕ) → q b ≡ false → b < 128) → (bs : List ℕ) → IsUtf8 bs → IsCharBoundary bs (position_or_len q bs)
boundary-behind q low bs u = by (position_or_len q bs) (prefix_len-le-length (λ b. not (q b)) bs) (λ k lt. low _ (not-true _ (prefix_len_passes (λ b. not (q b)) bs k 0 lt)))
  where
    not-true : (t : Bool) → not t ≡ true → t ≡ false
    not-true true e = absurd cc
    not-true false e = refl

    by : (n : ℕ) → n ≤ length bs → ((k : ℕ) → k < n → get_or bs k 0 < 128) → IsCharBoundary bs n
    by zero le each = IsCharBoundary-start bs u
    by (suc n) le each = subst (IsCharBoundary bs) (add-one n) (IsCharBoundary-after_ascii bs n u (omega arith) (each n (omega arith)))

pub unplain-low : (b : ℕ) → not (is_plain b) ≡ true → b < 128
unplain-low b e = grind (arith, nat_tests)

pub apostrophe-low : (b : ℕ) → is_apostrophe b ≡ true → b < 128
apostrophe-low b e = grind (arith, nat_tests)

pub blank-low : (b : ℕ) → not (is_blank b) ≡ false → b < 128
blank-low b e = grind (arith, nat_tests)

pub not-not : (p : ℕ → Bool) → AreOpposite p (λ b. not (p b))
not-not p b = by (p b)
  where
    by : (t : Bool) → t ≡ not (not t)
    by true = refl
    by false = refl
