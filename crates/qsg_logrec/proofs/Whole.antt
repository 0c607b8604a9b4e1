-- Reading all of the bytes.
use Rattle.std.proofs.Common.{◌≡◌, ℕ, ◌+◌, ◌-◌, ◌<◌, ◌≤◌, List, [], ◌++◌, length, take, drop, Result, Ok, Err, sym, ap, subst, ◌∙◌, append_assoc, arith, inl, inr}
use Rattle.std.proofs.lemmas.List.{append-nil, take_at, length-append, length-take-le, take-append-drop, nil_from_length}
use Rattle.qsg_msg.specs.Prefix.{IsFaultPlace}
use Rattle.qsg_msg.proofs.Forms.{IsBytes, Reads, two_fronts, ok_is, ok_no_err, fault_place}

module _ {A : Type 0} (F : A → List ℕ → Type 0) (f : List ℕ → Result (A × List ℕ) ℕ) (reads : Reads F f) where
  -- what is left is behind a spelling
  pub read_split : (bytes : List ℕ) (a : A) (rest : List ℕ) → IsBytes bytes → f bytes ≡ Ok (a, rest) → (text : List ℕ) × F a text × (bytes ≡ text ++ rest)
  read_split bytes a rest fits e = reads.takes bytes (a, rest) fits e

  pub rest_within : (bytes : List ℕ) (a : A) (rest : List ℕ) → IsBytes bytes → f bytes ≡ Ok (a, rest) → length rest ≤ length bytes
  rest_within bytes a rest fits e =
      let t = read_split bytes a rest fits e in
      omega (arith, ap length t.2, length-append t.0 rest)

  pub left_within : (bytes : List ℕ) (left : ℕ) → IsBytes bytes → f bytes ≡ Err left → left ≤ length bytes
  left_within bytes left fits e =
      let s = reads.stops bytes left fits e in
      omega (arith, s.left_is, ap length s.split, length-append s.good s.bad)

  pub whole_found : (bytes : List ℕ) (a : A) (rest : List ℕ) → IsBytes bytes → f bytes ≡ Ok (a, rest) → length rest ≡ 0 → F a bytes
  whole_found bytes a rest fits e none =
      let t = read_split bytes a rest fits e in
      let all : bytes ≡ t.0 = t.2 ∙ ap (λ l. t.0 ++ l) (nil_from_length rest none) ∙ append-nil t.0 in
      subst (F a) (sym all) t.1

  again_whole : (b : A) (bytes : List ℕ) → F b bytes → f bytes ≡ Ok (b, [])
  again_whole b bytes is = ap f (sym (append-nil bytes)) ∙ reads.again b bytes [] is

  pub whole_only : (bytes : List ℕ) (a : A) (rest : List ℕ) → f bytes ≡ Ok (a, rest) → (b : A) → F b bytes → (a ≡ b) × (rest ≡ [])
  whole_only bytes a rest e b is =
      let same = ok_is (a, rest) (b, []) (sym e ∙ again_whole b bytes is) in
      (ap (λ p. p.0) same, ap (λ p. p.1) same)

  pub whole_none : (bytes : List ℕ) (left : ℕ) → f bytes ≡ Err left → (b : A) → F b bytes → ⊥
  whole_none bytes left e b is = ok_no_err (b, []) left (sym (again_whole b bytes is) ∙ e)

  pub over_none : (bytes : List ℕ) (a : A) (rest : List ℕ) → f bytes ≡ Ok (a, rest) → 0 < length rest → (b : A) → F b bytes → ⊥
  over_none bytes a rest e more b is = absurd (omega (arith, more, ap length (whole_only bytes a rest e b is).1))

  -- where bytes stand behind a spelling, they are the fault
  pub over_place : (bytes : List ℕ) (a : A) (rest : List ℕ) (at : ℕ) → IsBytes bytes → f bytes ≡ Ok (a, rest) → at ≡ length bytes - length rest → IsFaultPlace (λ text. (b : A) × F b text) bytes at
  over_place bytes a rest at fits e is =
      let t = read_split bytes a rest fits e in
      let long : length bytes ≡ length t.0 + length rest = ap length t.2 ∙ length-append t.0 rest in
      let here : at ≡ length t.0 = omega (arith, is, long) in
      let front : take at bytes ≡ t.0 = ap (take at) t.2 ∙ take_at t.0 rest at (sym here) in record {
        within = omega (arith, here, long);
        begins = ([], (a, subst (F a) (sym (ap (λ l. l ++ []) front ∙ append-nil t.0)) t.1));
        greatest = λ n le b. elim (two_fronts (take n bytes) (drop n bytes) t.0 rest (take-append-drop n bytes ∙ t.2)) [
          | inl h ↦ omega (arith, here, ap length h.1, length-append (take n bytes) h.0, length-take-le n bytes le)
          | inr h ↦
              let both : take n bytes ++ b.0 ≡ t.0 ++ (h.0 ++ b.0) = ap (λ l. l ++ b.0) h.1 ∙ append_assoc t.0 h.0 b.0 in
              let same = ok_is (a, h.0 ++ b.0) (b.1.0, []) (sym (reads.again a t.0 (h.0 ++ b.0) t.1) ∙ ap f (sym both) ∙ again_whole b.1.0 (take n bytes ++ b.0) b.1.1) in
              let none : h.0 ++ b.0 ≡ [] = ap (λ p. p.1) same in
              omega (arith, here, ap length none, length-append h.0 b.0, ap length h.1, length-append t.0 h.0, length-take-le n bytes le)
        ];
      }

  pub stop_place : (bytes : List ℕ) (left at : ℕ) → IsBytes bytes → f bytes ≡ Err left → at ≡ length bytes - left → IsFaultPlace (λ text. (b : A) × F b text) bytes at
  stop_place bytes left at fits e is = fault_place F bytes left at (reads.stops bytes left fits e) is
