-- lists whose elements differ, and keys in lists
use Rattle.std.proofs.Common.{◌≡◌, ℕ, zero, suc, ◌<◌, Bool, true, false, List, [], ◌∷◌, ◌++◌, length, get_or, refl, sym, ap, subst, ◌∙◌, arith, inl, inr}
use Rattle.std.specs.Prelude.{Contains, ◌⊎◌}
use Rattle.std.specs.List.{list_any}
use Rattle.std.proofs.lemmas.Bool.{or_cases, both_ways}
use Rattle.std.proofs.lemmas.Bool.Decides.{nat_tests}
use Rattle.std.proofs.lemmas.List.Elements.{Contains-append_cases}
use Rattle.qsg_num.specs.declared.ids.UnitName.{UnitName}
use Rattle.qsg_num.specs.Ids.{same_unit}
use Rattle.qsg_model.specs.History.{same_key, has_key, AllDiffer, AllAmong}

pub at_head : {X : Type 0} (x : X) (xs : List X) → Contains (x ∷ xs) x
at_head x xs = (0, omega arith, refl)

pub in_tail : {X : Type 0} (y x : X) (xs : List X) → Contains xs x → Contains (y ∷ xs) x
in_tail y x xs c = (suc c.0, omega (arith, c.1), c.2)

pub head_or_tail : {X : Type 0} (y x : X) (xs : List X) → Contains (y ∷ xs) x → (y ≡ x) ⊎ Contains xs x
head_or_tail y x xs c = by c.0 c.1 c.2
  where
    by : (k : ℕ) → k < length (y ∷ xs) → get_or (y ∷ xs) k x ≡ x → (y ≡ x) ⊎ Contains xs x
    by zero lt e = inl e
    by (suc k) lt e = inr (k, omega arith, e)

pub none_in_empty : {X : Type 0} (x : X) → Contains [] x → ⊥
none_in_empty x c = absurd (omega (arith, c.1))

-- two lists whose elements differ, none of which is in both
pub differ_append : {X : Type 0} (xs ys : List X) → AllDiffer xs → AllDiffer ys → ((x : X) → Contains xs x → Contains ys x → ⊥) → AllDiffer (xs ++ ys)
differ_append [] ys a b apart = b
differ_append (x ∷ xs) ys a b apart = (
  (λ c. elim (Contains-append_cases xs ys x c) [ inl in_xs ↦ a.0 in_xs | inr in_ys ↦ apart x (at_head x xs) in_ys ]),
  differ_append xs ys a.1 b (λ y c d. apart y (in_tail x y xs c) d),
)

pub differ_push : {X : Type 0} (xs : List X) (y : X) → AllDiffer xs → (Contains xs y → ⊥) → AllDiffer (xs ++ y ∷ [])
differ_push xs y a lacks = differ_append xs (y ∷ []) a (none_in_empty y, tt)
    (λ x c d. elim (head_or_tail y x [] d) [ inl same ↦ lacks (subst (λ z. Contains xs z) (sym same) c) | inr none ↦ none_in_empty x none ])

-- a test that no element passes
pub none_passes : {X : Type 0} (p : X → Bool) (xs : List X) (x : X) → list_any p xs ≡ false → Contains xs x → p x ≡ true → ⊥
none_passes p [] x none c t = none_in_empty x c
none_passes p (y ∷ xs) x none c t = elim (head_or_tail y x xs c) [
  | inl same ↦ let u : p y ≡ true = ap p same ∙ t in absurd (grind (arith, none, u))
  | inr later ↦ none_passes p xs x (grind (arith, none)) later t
]

-- ---- keys and names

pub same_key-true : (a b : ℕ × ℕ) → same_key a b ≡ true → a ≡ b
same_key-true a b e =
    let first : a.0 ≡ b.0 = grind (arith, nat_tests) in
    let second : a.1 ≡ b.1 = grind (arith, nat_tests) in
    λ i. (first i, second i)

pub same_key-self : (a : ℕ × ℕ) → same_key a a ≡ true
same_key-self a = grind (arith, nat_tests)

pub has_contains : (ks : List (ℕ × ℕ)) (k : ℕ × ℕ) → has_key ks k ≡ true → Contains ks k
has_contains [] k h = absurd cc
has_contains (j ∷ ks) k h = elim (or_cases (same_key k j) (has_key ks k) h) [
  | inl same ↦ subst (λ z. Contains (z ∷ ks) k) (same_key-true k j same) (at_head k ks)
  | inr later ↦ in_tail j k ks (has_contains ks k later)
]

pub contains_has : (ks : List (ℕ × ℕ)) (k : ℕ × ℕ) → Contains ks k → has_key ks k ≡ true
contains_has [] k c = absurd (none_in_empty k c)
contains_has (j ∷ ks) k c = elim (head_or_tail j k ks c) [
  | inl same ↦ let t : same_key k j ≡ true = ap (same_key k) same ∙ same_key-self k in grind (arith, t)
  | inr later ↦ let t = contains_has ks k later in grind (arith, t)
]

pub not_in : (ks : List (ℕ × ℕ)) (k : ℕ × ℕ) → has_key ks k ≡ false → Contains ks k → ⊥
not_in ks k none c = both_ways (has_key ks k) none (contains_has ks k c)

pub all_among : (xs ks : List (ℕ × ℕ)) → ((k : ℕ × ℕ) → has_key xs k ≡ true → Contains ks k) → AllAmong xs ks
all_among [] ks all = tt
all_among (x ∷ xs) ks all = (
  all x (let t = same_key-self x in grind (arith, t)),
  all_among xs ks (λ k h. all k (grind (arith, h))),
)

pub same_unit-self : (u : UnitName) → same_unit u u ≡ true
same_unit-self u = grind (arith, nat_tests)

pub fold_push : {A B : Type 0} (f : B → A → B) (b : B) (xs : List A) (x : A) → Rattle.std.specs.List.fold f b (xs ++ x ∷ []) ≡ f (Rattle.std.specs.List.fold f b xs) x
fold_push f b [] x = refl
fold_push f b (y ∷ xs) x = fold_push f (f b y) xs x
