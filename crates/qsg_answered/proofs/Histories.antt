-- units of a legal history
use Rattle.std.proofs.Common.{◌≡◌, ℕ, ◌≤◌, List, [], ◌∷◌, ◌++◌, Bool, true, false, cond, drop, zero, suc, map, ◌⊎◌, inl, inr, refl, sym, ap, subst, ◌∙◌, arith, true≢false}
use Rattle.std.specs.Prelude.{Contains, count_by}
use Rattle.std.proofs.lemmas.Bool.{both_ways}
use Rattle.std.proofs.lemmas.List.Elements.{Contains-append_right}
use Rattle.std.proofs.lemmas.List.Folds.{list_any-append}
use Rattle.std.proofs.lemmas.List.Sums.{sum_by-cons}
use Rattle.qsg_num.specs.declared.seats.StructNo.{StructNo}
use Rattle.qsg_num.specs.declared.ids.UnitName.{UnitName}
use Rattle.qsg_num.specs.Ids.{same_unit}
use Rattle.qsg_num.specs.Seats.{structure_number}
use Rattle.qsg_model.specs.declared.history.Item.{Item}
use Rattle.qsg_model.specs.declared.history.Item.TheVariants.{Unit as UnitOf, Lost, Purged}
use Rattle.qsg_model.specs.declared.history.Op.{Op}
use Rattle.qsg_model.specs.declared.history.Op.TheVariants.{Put, Got}
use Rattle.qsg_model.specs.History.{key, same_key, has_key, puts, gots, ops_by, names, names_by, put_keys, got_keys, AllDiffer, Legal}
use Rattle.qsg_model.specs.Past.{keys_of, is_put, is_got, was_put, was_got}
use Rattle.qsg_model.proofs.Differing.{at_head, in_tail, head_or_tail, none_in_empty, has_contains, same_unit-self}
use Rattle.qsg_model.proofs.Listed.{differ_back}
use Rattle.qsg_model.proofs.Past.{apart}
use Rattle.qsg_group.specs.declared.tasks.Claim.{Claim}
use Rattle.qsg_group.specs.Observers.{keys_claimed, key_of_op}
use Rattle.qsg_group.proofs.Pages.{same_name}

-- ---- names

abbrev same : UnitName → UnitName → ℕ
same u v = cond (same_unit u v) 1 0

-- a name that isn't in a list isn't counted
uncounted : (u : UnitName) (us : List UnitName) → (Contains us u → ⊥) → count_by (same_unit u) us ≡ 0
uncounted u [] lacks = refl
uncounted u (v ∷ us) lacks = by (same_unit u v) refl (uncounted u us (λ c. lacks (in_tail v u us c)))
  where
    by : (b : Bool) → same_unit u v ≡ b → count_by (same_unit u) us ≡ 0 → count_by (same_unit u) (v ∷ us) ≡ 0
    by true is rest = absurd (lacks (subst (λ (x : UnitName). Contains (v ∷ us) x) (sym (same_name u v is)) (at_head v us)))
    by false is rest = let one : same u v ≡ 0 = ap (λ (b : Bool). cond b 1 0) is in omega (arith, sum_by-cons (same u) v us, one, rest)

pub once_most : (u : UnitName) (us : List UnitName) → AllDiffer us → count_by (same_unit u) us ≤ 1
once_most u [] differ = omega arith
once_most u (v ∷ us) differ = by (same_unit u v) refl (once_most u us differ.1)
  where
    by : (b : Bool) → same_unit u v ≡ b → count_by (same_unit u) us ≤ 1 → count_by (same_unit u) (v ∷ us) ≤ 1
    by true is rest =
        let none = uncounted u us (λ c. differ.0 (subst (λ (x : UnitName). Contains us x) (same_name u v is) c)) in
        let one : same u v ≡ 1 = ap (λ (b : Bool). cond b 1 0) is in
        omega (arith, sum_by-cons (same u) v us, one, none)
    by false is rest = let one : same u v ≡ 0 = ap (λ (b : Bool). cond b 1 0) is in omega (arith, sum_by-cons (same u) v us, one, rest)

once_least : (u : UnitName) (us : List UnitName) → Contains us u → 1 ≤ count_by (same_unit u) us
once_least u [] c = absurd (none_in_empty u c)
once_least u (v ∷ us) c = elim (head_or_tail v u us c) [
  | inl is ↦
      let here : same u v ≡ 1 = ap (same u) is ∙ ap (λ (b : Bool). cond b 1 0) (same_unit-self u) in
      omega (arith, sum_by-cons (same u) v us, here)
  | inr later ↦
      let rest = once_least u us later in
      omega (arith, sum_by-cons (same u) v us, rest)
]

pub name_there : (h : List Item) (u : UnitName) (ops : List (StructNo × Op)) → Contains h (UnitOf u ops) → Contains (names h) u
name_there [] u ops c = absurd (none_in_empty (UnitOf u ops) c)
name_there (i ∷ h) u ops c = elim (head_or_tail i (UnitOf u ops) h c) [
  | inl same ↦ subst (λ (j : Item). Contains (names_by j ++ names h) u) (sym same) (at_head u (names h))
  | inr later ↦ Contains-append_right (names_by i) (names h) u (name_there h u ops later)
]

-- a unit of a legal history is there once
pub once : (h : List Item) (u : UnitName) (ops : List (StructNo × Op)) → Legal h → Contains h (UnitOf u ops) → count_by (same_unit u) (names h) ≡ 1
once h u ops legal c = omega (arith, once_most u (names h) legal.names_differ, once_least u (names h) (name_there h u ops c))

-- ---- keys

-- operations that are claimed are puts and gets
pub put_or_got : (k : ℕ × ℕ) (ops : List (StructNo × Op)) → has_key (map key_of_op ops) k ≡ true → (is_put k ops ≡ true) ⊎ (is_got k ops ≡ true)
put_or_got k [] has = absurd (true≢false (sym has))
put_or_got k ((s, Put m) ∷ ops) has = by (same_key k (key m)) refl (put_or_got k ops)
  where
    by : (b : Bool) → same_key k (key m) ≡ b → (has_key (map key_of_op ops) k ≡ true → (is_put k ops ≡ true) ⊎ (is_got k ops ≡ true)) → (is_put k ((s, Put m) ∷ ops) ≡ true) ⊎ (is_got k ((s, Put m) ∷ ops) ≡ true)
    by true is rest = inl (grind (arith, is))
    by false is rest = elim (rest (grind (arith, is, has))) [ inl put ↦ inl (grind (arith, is, put)) | inr got ↦ inr got ]
put_or_got k ((s, Got id) ∷ ops) has = by (same_key k (structure_number s, id.number)) refl (put_or_got k ops)
  where
    by : (b : Bool) → same_key k (structure_number s, id.number) ≡ b → (has_key (map key_of_op ops) k ≡ true → (is_put k ops ≡ true) ⊎ (is_got k ops ≡ true)) → (is_put k ((s, Got id) ∷ ops) ≡ true) ⊎ (is_got k ((s, Got id) ∷ ops) ≡ true)
    by true is rest = inr (grind (arith, is))
    by false is rest = elim (rest (grind (arith, is, has))) [ inl put ↦ inl put | inr got ↦ inr (grind (arith, is, got)) ]

-- claims that are left are claims
pub left_claimed : (n : ℕ) (k : ℕ × ℕ) (claims : List Claim) → has_key (keys_claimed (drop n claims)) k ≡ true → has_key (keys_claimed claims) k ≡ true
left_claimed zero k claims has = has
left_claimed (suc n) k [] has = has
left_claimed (suc n) k (c ∷ claims) has = let rest = left_claimed n k claims has in grind (arith, rest)

-- what a unit of a history got was got
pub unit_got : (k : ℕ × ℕ) (h : List Item) (u : UnitName) (ops : List (StructNo × Op)) → Contains h (UnitOf u ops) → is_got k ops ≡ true → was_got k h ≡ true
unit_got k [] u ops c got = absurd (none_in_empty (UnitOf u ops) c)
unit_got k (i ∷ h) u ops c got =
    list_any-append (same_key k) (gots (ops_by i)) (got_keys h) ∙ (elim (head_or_tail i (UnitOf u ops) h c) [
      | inl is ↦ let here : has_key (gots (ops_by i)) k ≡ true = ap (λ (j : Item). has_key (gots (ops_by j)) k) is ∙ got in grind (arith, here)
      | inr later ↦ let rest = unit_got k h u ops later got in grind (arith, rest)
    ])

unit_put : (k : ℕ × ℕ) (h : List Item) (u : UnitName) (ops : List (StructNo × Op)) → Contains h (UnitOf u ops) → is_put k ops ≡ true → was_put k h ≡ true
unit_put k [] u ops c put = absurd (none_in_empty (UnitOf u ops) c)
unit_put k (i ∷ h) u ops c put =
    list_any-append (same_key k) (keys_of (puts (ops_by i))) (put_keys h) ∙ (elim (head_or_tail i (UnitOf u ops) h c) [
      | inl is ↦ let here : has_key (keys_of (puts (ops_by i))) k ≡ true = ap (λ (j : Item). has_key (keys_of (puts (ops_by j))) k) is ∙ put in grind (arith, here)
      | inr later ↦ let rest = unit_put k h u ops later put in grind (arith, rest)
    ])

name_in : Item → UnitName → UnitName
name_in (UnitOf u ops) d = u
name_in (Lost s) d = d
name_in (Purged s) d = d

-- a message is put by one unit
pub put_once : (k : ℕ × ℕ) (h : List Item) (u v : UnitName) (ops others : List (StructNo × Op)) → AllDiffer (put_keys h) → Contains h (UnitOf u ops) → Contains h (UnitOf v others) → is_put k ops ≡ true → is_put k others ≡ true → u ≡ v
unfolding name_in
put_once k [] u v ops others differ c d put also = absurd (none_in_empty (UnitOf u ops) c)
put_once k (i ∷ h) u v ops others differ c d put also = by (head_or_tail i (UnitOf u ops) h c) (head_or_tail i (UnitOf v others) h d) (λ x y. put_once k h u v ops others (differ_back (keys_of (puts (ops_by i))) (put_keys h) differ) x y put also)
  where
    -- a key of the first item isn't one of a later unit
    clash : (w : UnitName) (xs : List (StructNo × Op)) (z : UnitName) (ys : List (StructNo × Op)) → i ≡ UnitOf w xs → Contains h (UnitOf z ys) → is_put k xs ≡ true → is_put k ys ≡ true → ⊥
    clash w xs z ys is later one two =
        let here : has_key (keys_of (puts (ops_by i))) k ≡ true = ap (λ (j : Item). has_key (keys_of (puts (ops_by j))) k) is ∙ one in
        both_ways (has_key (put_keys h) k) (apart (keys_of (puts (ops_by i))) (put_keys h) k differ (has_contains (keys_of (puts (ops_by i))) k here)) (unit_put k h z ys later two)

    by : (i ≡ UnitOf u ops) ⊎ Contains h (UnitOf u ops) → (i ≡ UnitOf v others) ⊎ Contains h (UnitOf v others) → (Contains h (UnitOf u ops) → Contains h (UnitOf v others) → u ≡ v) → u ≡ v
    by (inl one) (inl two) rest = ap (λ (j : Item). name_in j u) (sym one ∙ two)
    by (inl one) (inr two) rest = absurd (clash u ops v others one two put also)
    by (inr one) (inl two) rest = absurd (clash v others u ops two one also put)
    by (inr one) (inr two) rest = rest one two
