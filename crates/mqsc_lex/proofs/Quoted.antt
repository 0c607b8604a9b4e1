-- quoted texts, in which each apostrophe stands twice
use Rattle.std.proofs.Common.{◌≡◌, ℕ, ◌==◌, Bool, true, false, not, cond, ◌&&◌, List, [], ◌∷◌, ◌++◌, refl, sym, ap, subst, ◌∙◌, arith, append_assoc}
use Rattle.std.specs.List.{list_all}
use Rattle.std.proofs.lemmas.List.{append-nil}
use Rattle.std.proofs.lemmas.Bool.Decides.{nat_tests}
use Rattle.mqsc_lex.specs.Texts.{is_apostrophe, AreAll, BeginsOther, doubled, IsTextAt}
use Rattle.mqsc_lex.specs.Reading.{IsCut, IsQuotedRest}

abbrev pub other : ℕ → Bool
other b = not (is_apostrophe b)

pub doubled-append : (a b : List ℕ) → doubled (a ++ b) ≡ doubled a ++ doubled b
doubled-append [] b = refl
doubled-append (x ∷ a) b = by (is_apostrophe x) (doubled-append a b)
  where
    by : (t : Bool) → doubled (a ++ b) ≡ doubled a ++ doubled b → cond t (39 ∷ 39 ∷ doubled (a ++ b)) (x ∷ doubled (a ++ b)) ≡ cond t (39 ∷ 39 ∷ doubled a) (x ∷ doubled a) ++ doubled b
    by true e = ap (λ l. 39 ∷ 39 ∷ l) e
    by false e = ap (λ l. x ∷ l) e

pub doubled-none : (a : List ℕ) → AreAll other a → doubled a ≡ a
doubled-none [] h = refl
doubled-none (x ∷ a) h = by (is_apostrophe x) h (λ k. doubled-none a k)
  where
    by : (t : Bool) → (not t && list_all other a) ≡ true → (AreAll other a → doubled a ≡ a) → cond t (39 ∷ 39 ∷ doubled a) (x ∷ doubled a) ≡ x ∷ a
    by true k e = absurd cc
    by false k e = ap (λ l. x ∷ l) (e k)

first_is : (back : List ℕ) (b : ℕ) (after : List ℕ) → back ≡ b ∷ after → BeginsOther other back → b ≡ 39
first_is back b after e h = by b (subst (BeginsOther other) e h)
  where
    by : (b : ℕ) → not (b == 39) ≡ false → b ≡ 39
    by b h = grind (arith, nat_tests)

not_first : (x : ℕ) (l : List ℕ) → ((m : List ℕ) × (x ∷ l ≡ 39 ∷ m) → ⊥) → (x == 39) ≡ false
not_first x l differs = test (x == 39) refl
  where
    test : (t : Bool) → (x == 39) ≡ t → t ≡ false
    test false e = refl
    test true e = let k : x ≡ 39 = grind (arith, nat_tests) in absurd (differs (l, ap (λ y. y ∷ l) k))

module _ (text : List ℕ) {inside rest front back : List ℕ} (so_far : inside ≡ doubled text ++ rest) (cut : IsCut other rest front back) where
  more : inside ≡ doubled (text ++ front) ++ back
  more =
      so_far ∙ ap (λ l. doubled text ++ l) cut.split ∙ sym (append_assoc (doubled text) front back)
      ∙ ap (λ l. l ++ back) (ap (λ l. doubled text ++ l) (sym (doubled-none front cut.all)) ∙ sym (doubled-append text front))

  pub ended : back ≡ [] → inside ≡ doubled (text ++ front)
  ended e = more ∙ ap (λ l. doubled (text ++ front) ++ l) e ∙ append-nil _

  pub closed : (b : ℕ) (after : List ℕ) → back ≡ b ∷ after → ((l : List ℕ) × (after ≡ 39 ∷ l) → ⊥) → IsQuotedRest (text ++ front) inside after
  closed b after e not_again = record {
    split = more ∙ ap (λ l. doubled (text ++ front) ++ l) (e ∙ ap (λ x. x ∷ after) (first_is back b after e cut.ends));
    ends = by after not_again;
  }
    where
      by : (l : List ℕ) → ((m : List ℕ) × (l ≡ 39 ∷ m) → ⊥) → BeginsOther is_apostrophe l
      by [] differs = tt
      by (x ∷ l) differs = not_first x l differs

  pub going : (b c : ℕ) (after rest' : List ℕ) → back ≡ b ∷ after → after ≡ c ∷ rest' → (l : List ℕ) × (after ≡ 39 ∷ l) → inside ≡ doubled ((text ++ front) ++ 39 ∷ []) ++ rest'
  going b c after rest' e f again =
      let k : rest' ≡ again.0 = cc in
      more ∙ ap (λ l. doubled (text ++ front) ++ l) (e ∙ ap (λ x. x ∷ after) (first_is back b after e cut.ends) ∙ ap (λ l. 39 ∷ l) (again.1 ∙ ap (λ l. 39 ∷ l) (sym k)))
      ∙ sym (append_assoc (doubled (text ++ front)) (39 ∷ 39 ∷ []) rest') ∙ ap (λ l. l ++ rest') (sym (doubled-append (text ++ front) (39 ∷ [])))

-- a quoted text with its apostrophes
pub opened : (text bytes inside rest : List ℕ) → bytes ≡ 39 ∷ inside → IsQuotedRest text inside rest → IsTextAt true text bytes rest
opened text bytes inside rest e q = record {
  spelling = 39 ∷ (doubled text ++ 39 ∷ []);
  spelled = refl;
  split = e ∙ ap (λ l. 39 ∷ l) (q.split ∙ sym (append_assoc (doubled text) (39 ∷ []) rest));
  ends = q.ends;
}
