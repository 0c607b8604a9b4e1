-- lists, tests, and names of units
use Rattle.std.proofs.Common.{◌≡◌, ℕ, zero, suc, ◌+◌, ◌≤◌, Bool, true, false, not, ◌||◌, ◌&&◌, ◌==◌, List, [], ◌∷◌, ◌++◌, length, drop, refl, sym, ap, ◌∙◌, arith, true≢false, eqb-true, eq-eqb}
use Rattle.qsg_num.specs.declared.ids.UnitName.{UnitName}
use Rattle.qsg_num.specs.Seats.{member_number}
use Rattle.qsg_num.specs.Ids.{same_unit}
use Rattle.qsg_num.proofs.Ranges.{member-same}

pub head_same : {X : Type 0} (x y : X) (xs ys : List X) → x ∷ xs ≡ y ∷ ys → x ≡ y
head_same x y xs ys e = cc

pub tail_same : {X : Type 0} (x y : X) (xs ys : List X) → x ∷ xs ≡ y ∷ ys → xs ≡ ys
tail_same x y xs ys e = cc

pub no_head : {X A : Type 0} (x : X) (xs : List X) → [] ≡ x ∷ xs → A
no_head x xs e = cc

pub not_empty : {X A : Type 0} (xs : List X) (y : X) (ys : List X) → [] ≡ xs ++ y ∷ ys → A
not_empty [] y ys e = no_head y ys e
not_empty (x ∷ xs) y ys e = no_head x (xs ++ y ∷ ys) e

-- what is dropped of joined lists
pub drop_front : {X : Type 0} (n : ℕ) (xs ys : List X) (k : ℕ) → n ≡ length xs + k → drop n (xs ++ ys) ≡ drop k ys
drop_front n [] ys k is = ap (λ (m : ℕ). drop m ys) (omega (arith, is))
drop_front zero (x ∷ xs) ys k is = absurd (omega (arith, is))
drop_front (suc n) (x ∷ xs) ys k is = drop_front n xs ys k (omega (arith, is))

pub drop_within : {X : Type 0} (n : ℕ) (xs ys : List X) → n ≤ length xs → drop n (xs ++ ys) ≡ drop n xs ++ ys
drop_within zero xs ys less = refl
drop_within (suc n) [] ys less = absurd (omega (arith, less))
drop_within (suc n) (x ∷ xs) ys less = drop_within n xs ys (omega (arith, less))

-- ---- tests

pub both : (a b : Bool) → (a && b) ≡ true → (a ≡ true) × (b ≡ true)
both true b e = (refl, e)
both false b e = absurd (true≢false (sym e))

pub and_true : (a b : Bool) → a ≡ true → b ≡ true → (a && b) ≡ true
and_true a b e f = (λ i. e i && f i)

pub or_true : (a b : Bool) → b ≡ true → (a || b) ≡ true
or_true true b e = refl
or_true false b e = e

pub neither : (a b : Bool) → (a || b) ≡ false → (a ≡ false) × (b ≡ false)
neither true b e = absurd (true≢false e)
neither false b e = (refl, e)

pub or_false : (a b : Bool) → a ≡ false → b ≡ false → (a || b) ≡ false
or_false a b e f = (λ i. e i || f i)

pub not_true : (a : Bool) → not a ≡ true → a ≡ false
not_true true e = absurd (true≢false (sym e))
not_true false e = refl

-- ---- names of units

pub same_is : (a b : UnitName) → same_unit a b ≡ true → a ≡ b
same_is a b e =
    let p = both (member_number a.member == member_number b.member) ((a.incarnation.number == b.incarnation.number) && (a.seq == b.seq)) e in
    let q = both (a.incarnation.number == b.incarnation.number) (a.seq == b.seq) p.1 in
    let m = member-same a.member b.member (eqb-true _ _ p.0) in
    let i = eqb-true _ _ q.0 in
    let s = eqb-true _ _ q.1 in
    (λ k. record { member = m k; incarnation = record { number = i k }; seq = s k })

pub same_self : (u : UnitName) → same_unit u u ≡ true
same_self u = rw (eq-eqb (member_number u.member) (member_number u.member) refl, eq-eqb u.incarnation.number u.incarnation.number refl, eq-eqb u.seq u.seq refl) refl

pub apart_back : (a b : UnitName) → same_unit a b ≡ false → same_unit b a ≡ false
apart_back a b e = by (same_unit b a) refl
  where
    by : (t : Bool) → same_unit b a ≡ t → t ≡ false
    by true s = absurd (true≢false (sym (same_self a) ∙ ap (same_unit a) (sym (same_is b a s)) ∙ e))
    by false s = refl
