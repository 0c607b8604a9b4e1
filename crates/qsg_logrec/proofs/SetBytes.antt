-- A set is known by its byte.
use Rattle.std.proofs.Common.{◌≡◌, ℕ, zero, suc, ◌<◌, ◌≤◌, Bool, true, false, cond, List, Option, Some, None, refl, sym, ap, ◌∙◌, arith}
use Rattle.std.specs.Prelude.{nat_le, ◌&&◌}
use Rattle.std.proofs.lemmas.Bool.{leb-true, le-leb}
use Rattle.qsg_num.specs.declared.seats.StructNo.{StructNo}
use Rattle.qsg_num.proofs.Ranges.{some-same}
use Rattle.qsg_logrec.specs.Sets.{structures_in, set_byte, IsSet, is_rising}
use Rattle.qsg_logrec.specs.Reading.{set_at}

pub byte_back : (n : ℕ) → 1 ≤ n → n ≤ 15 → set_byte (structures_in n) ≡ n
byte_back zero low high = absurd (omega (arith, low))
byte_back (suc zero) low high = refl
byte_back (suc (suc zero)) low high = refl
byte_back (suc (suc (suc zero))) low high = refl
byte_back (suc (suc (suc (suc zero)))) low high = refl
byte_back (suc (suc (suc (suc (suc zero))))) low high = refl
byte_back (suc (suc (suc (suc (suc (suc zero)))))) low high = refl
byte_back (suc (suc (suc (suc (suc (suc (suc zero))))))) low high = refl
byte_back (suc (suc (suc (suc (suc (suc (suc (suc zero)))))))) low high = refl
byte_back (suc (suc (suc (suc (suc (suc (suc (suc (suc zero))))))))) low high = refl
byte_back (suc (suc (suc (suc (suc (suc (suc (suc (suc (suc zero)))))))))) low high = refl
byte_back (suc (suc (suc (suc (suc (suc (suc (suc (suc (suc (suc zero))))))))))) low high = refl
byte_back (suc (suc (suc (suc (suc (suc (suc (suc (suc (suc (suc (suc zero)))))))))))) low high = refl
byte_back (suc (suc (suc (suc (suc (suc (suc (suc (suc (suc (suc (suc (suc zero))))))))))))) low high = refl
byte_back (suc (suc (suc (suc (suc (suc (suc (suc (suc (suc (suc (suc (suc (suc zero)))))))))))))) low high = refl
byte_back (suc (suc (suc (suc (suc (suc (suc (suc (suc (suc (suc (suc (suc (suc (suc zero))))))))))))))) low high = refl
byte_back (suc (suc (suc (suc (suc (suc (suc (suc (suc (suc (suc (suc (suc (suc (suc (suc n)))))))))))))))) low high = absurd (omega (arith, high))

pub rising : (n : ℕ) → 1 ≤ n → n ≤ 15 → is_rising 0 (structures_in n) ≡ true
rising zero low high = absurd (omega (arith, low))
rising (suc zero) low high = refl
rising (suc (suc zero)) low high = refl
rising (suc (suc (suc zero))) low high = refl
rising (suc (suc (suc (suc zero)))) low high = refl
rising (suc (suc (suc (suc (suc zero))))) low high = refl
rising (suc (suc (suc (suc (suc (suc zero)))))) low high = refl
rising (suc (suc (suc (suc (suc (suc (suc zero))))))) low high = refl
rising (suc (suc (suc (suc (suc (suc (suc (suc zero)))))))) low high = refl
rising (suc (suc (suc (suc (suc (suc (suc (suc (suc zero))))))))) low high = refl
rising (suc (suc (suc (suc (suc (suc (suc (suc (suc (suc zero)))))))))) low high = refl
rising (suc (suc (suc (suc (suc (suc (suc (suc (suc (suc (suc zero))))))))))) low high = refl
rising (suc (suc (suc (suc (suc (suc (suc (suc (suc (suc (suc (suc zero)))))))))))) low high = refl
rising (suc (suc (suc (suc (suc (suc (suc (suc (suc (suc (suc (suc (suc zero))))))))))))) low high = refl
rising (suc (suc (suc (suc (suc (suc (suc (suc (suc (suc (suc (suc (suc (suc zero)))))))))))))) low high = refl
rising (suc (suc (suc (suc (suc (suc (suc (suc (suc (suc (suc (suc (suc (suc (suc zero))))))))))))))) low high = refl
rising (suc (suc (suc (suc (suc (suc (suc (suc (suc (suc (suc (suc (suc (suc (suc (suc n)))))))))))))))) low high = absurd (omega (arith, high))

pub set_rises : (set : List StructNo) → IsSet set → is_rising 0 set ≡ true
set_rises set (byte, low, high, is) = ap (is_rising 0) is ∙ rising byte low high

none_no_some : {A : Type 0} (a : A) (o : Option A) → o ≡ None → o ≡ Some a → ⊥
none_no_some a o e f = cc

pub set_is : (n : ℕ) (set : List StructNo) → set_at n ≡ Some set → IsSet set × (n ≡ set_byte set)
set_is n set e = by_tests (nat_le 1 n) (nat_le n 15) refl refl e
  where
    by_tests : (a b : Bool) → nat_le 1 n ≡ a → nat_le n 15 ≡ b → cond (a && b) (Some (structures_in n)) None ≡ Some set → IsSet set × (n ≡ set_byte set)
    by_tests true true low high e =
        let same : set ≡ structures_in n = sym (some-same _ _ e) in
        let one = leb-true _ _ low in
        let most = leb-true _ _ high in
        ((n, one, most, same), sym (byte_back n one most) ∙ ap set_byte (sym same))
    by_tests true false low high e = absurd (none_no_some set None refl e)
    by_tests false b low high e = absurd (none_no_some set None refl e)

pub set_back : (set : List StructNo) → IsSet set → (set_byte set < 256) × (set_at (set_byte set) ≡ Some set)
set_back set (n, low, high, is) =
    let byte : set_byte set ≡ n = ap set_byte is ∙ byte_back n low high in
    (omega (arith, byte, high), ap set_at byte ∙ rw (le-leb 1 n low, le-leb n 15 high) (ap (λ s. Some s) (sym is)))
