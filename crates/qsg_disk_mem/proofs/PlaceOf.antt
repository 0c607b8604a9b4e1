-- each member and kind has a place of its own
use Rattle.std.proofs.Common.{◌≡◌, ℕ, ◌+◌, ◌-◌, ◌*◌, ◌≤◌, ◌<◌, Bool, true, false, Option, Some, None, List, zero, suc, length, get_or, set, replicate, cond, refl, sym, ap, ◌∙◌, inl, inr, arith}
use Rattle.std.specs.Prelude.{if◌then◌else◌}
use Rattle.std.proofs.lemmas.Bool.{cases_eq}
use Rattle.std.proofs.lemmas.List.{get_or-set_same, get_or-set_other}
use Rattle.std.specs.Prelude.{◌==◌, ◌&&◌}
use Rattle.std.proofs.lemmas.Bool.Decides.{nat_tests}
use Rattle.qsg_num.specs.declared.seats.Member.{Member}
use Rattle.qsg_num.specs.declared.seats.StructNo.{StructNo}
use Rattle.qsg_num.specs.declared.seats.StructNo.TheVariants as s
use Rattle.qsg_num.specs.Seats.{member_number, structure_number}
use Rattle.qsg_num.proofs.Ranges.{member-bounds}
use Rattle.qsg_disk.specs.declared.kinds.Kind.{Kind}
use Rattle.qsg_disk.specs.declared.kinds.Kind.TheVariants.{Log, DataSet}
use Rattle.qsg_disk.specs.Places.{kind_number, is_place}
use Rattle.qsg_disk_mem.specs.Places.{place_of}

kind-bound : (k : Kind) → kind_number k ≤ 4
kind-bound Log = omega arith
kind-bound (DataSet s.One) = omega arith
kind-bound (DataSet s.Two) = omega arith
kind-bound (DataSet s.Three) = omega arith
kind-bound (DataSet s.Four) = omega arith

apart : (a b x y : ℕ) → 1 ≤ a → 1 ≤ b → x ≤ 4 → y ≤ 4 → (5 * (a - 1) + x == 5 * (b - 1) + y) ≡ (a == b) && (x == y)
apart a b x y p q r t = grind (arith, nat_tests)

pub same_place : (member : Member) (kind : Kind) (m : Member) (k : Kind) → (place_of m k == place_of member kind) ≡ is_place member kind m k
same_place member kind m k = apart (member_number m) (member_number member) (kind_number k) (kind_number kind) (member-bounds m).0 (member-bounds member).0 (kind-bound k) (kind-bound kind)

module _ {X : Type 0} where
  pub none_at : (n p : ℕ) → get_or (replicate {A = Option X} n None) p None ≡ None
  none_at zero p = refl
  none_at (suc n) zero = refl
  none_at (suc n) (suc p) = none_at n p

  set_at : (items : List (Option X)) (p q : ℕ) (d : Option X) → p < length items → get_or (set items p d) q None ≡ (if q == p then d else get_or items q None)
  set_at items p q d less = elim (cases_eq q p) [
    | inl e ↦ ap (λ (n : ℕ). get_or (set items p d) n None) e ∙ get_or-set_same items p d None less ∙ sym (ap (λ (b : Bool). cond b d (get_or items q None)) (yes q p e))
    | inr e ↦ get_or-set_other items p q d None e ∙ sym (ap (λ (b : Bool). cond b d (get_or items q None)) (no q p e))
  ]
    where
      yes : (q p : ℕ) → q ≡ p → (q == p) ≡ true
      yes q p e = grind (arith, nat_tests)

      no : (q p : ℕ) → (q ≡ p → ⊥) → (q == p) ≡ false
      no q p e = grind (arith, nat_tests)

  pub given_back : (items : List (Option X)) (d : Option X) (member : Member) (kind : Kind) (p : ℕ) → p ≡ place_of member kind → p < length items → (m : Member) (k : Kind)
      → get_or (set items p d) (place_of m k) None ≡ (if is_place member kind m k then d else get_or items (place_of m k) None)
  given_back items d member kind p is less m k =
      set_at items p (place_of m k) d less
      ∙ ap (λ (b : Bool). cond b d (get_or items (place_of m k) None)) (ap (λ (n : ℕ). place_of m k == n) is ∙ same_place member kind m k)
