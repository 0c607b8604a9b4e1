-- the tally at a place is the first one of its incarnation
use Rattle.std.proofs.Common.{◌≡◌, ◌<◌, ℕ, Bool, true, false, cond, List, [], ◌∷◌, length, get_or, slice_set, Some, None, refl, ap, sym, ◌∙◌, arith}
use Rattle.std.specs.Prelude.{zero, suc, if◌then◌else◌, nat_lt}
use Rattle.std.specs.List.{position, position_or_len}
use Rattle.std.proofs.lemmas.Bool.{false≢true}
use Rattle.std.proofs.lemmas.List.Quantifiers.{position-Some}
use Rattle.std.proofs.lemmas.List.Sums.{fails_before_first}
use Rattle.qsg_num.specs.declared.seats.Member.{Member}
use Rattle.qsg_num.specs.declared.ids.Incarnation.{Incarnation}
use Rattle.qsg_tallies.specs.declared.tally.Tally.{Tally}
use Rattle.qsg_tallies.specs.Tallies.{is_tally_of, with_one, counted_in}

picked : {X : Type 0} (b : Bool) (x y : X) → b ≡ true → (if b then x else y) ≡ x
picked true x y is = refl
picked false x y is = absurd (false≢true is)

left : {X : Type 0} (b : Bool) (x y : X) → b ≡ false → (if b then x else y) ≡ y
left true x y is = absurd (false≢true (sym is))
left false x y is = refl

at : (of : Member) (i : Incarnation) (m : Member) (tallies : List Tally) (place : ℕ) (d : Tally) → place < length tallies → is_tally_of of i (get_or tallies place d) ≡ true
    → ((k : ℕ) → k < place → is_tally_of of i (get_or tallies k d) ≡ false) → slice_set tallies place (with_one m (get_or tallies place d)) ≡ counted_in of i m tallies
at of i m [] place d within here before = absurd (omega (arith, within))
at of i m (t ∷ ts) zero d within here before = sym (picked (is_tally_of of i t) (with_one m t ∷ ts) (t ∷ counted_in of i m ts) here)
at of i m (t ∷ ts) (suc place) d within here before =
    ap (λ us. t ∷ us) (at of i m ts place d (omega (arith, within)) here (λ k less. before (suc k) (omega (arith, less))))
    ∙ sym (left (is_tally_of of i t) (with_one m t ∷ ts) (t ∷ counted_in of i m ts) (before 0 (omega arith)))

none_of : (of : Member) (i : Incarnation) (m : Member) (tallies : List Tally) → ((k : ℕ) (d : Tally) → k < length tallies → is_tally_of of i (get_or tallies k d) ≡ false) → tallies ≡ counted_in of i m tallies
none_of of i m [] each = refl
none_of of i m (t ∷ ts) each =
    ap (λ us. t ∷ us) (none_of of i m ts (λ k d less. each (suc k) d (omega (arith, less))))
    ∙ sym (left (is_tally_of of i t) (with_one m t ∷ ts) (t ∷ counted_in of i m ts) (each 0 t (omega arith)))

beyond : (b : Bool) (n : ℕ) → cond b (Some n) None ≡ None → b ≡ false
beyond true n is = cc
beyond false n is = refl

pub at_place : (of : Member) (i : Incarnation) (m : Member) (tallies : List Tally) (place : ℕ) (d : Tally) → position (is_tally_of of i) tallies ≡ Some place
    → slice_set tallies place (with_one m (get_or tallies place d)) ≡ counted_in of i m tallies
at_place of i m tallies place d is =
    let found = position-Some (is_tally_of of i) tallies place d is in
    at of i m tallies place d found.0 found.1 found.2

pub no_place : (of : Member) (i : Incarnation) (m : Member) (tallies : List Tally) → position (is_tally_of of i) tallies ≡ None → tallies ≡ counted_in of i m tallies
no_place of i m tallies is = none_of of i m tallies (λ k d less. fails_before_first (is_tally_of of i) tallies k d (short k less (beyond (nat_lt (position_or_len (is_tally_of of i) tallies) (length tallies)) (position_or_len (is_tally_of of i) tallies) is)))
  where
    short : (k : ℕ) → k < length tallies → nat_lt (position_or_len (is_tally_of of i) tallies) (length tallies) ≡ false → k < position_or_len (is_tally_of of i) tallies
    short k less none = grind (arith, less, none)
