-- an even number of hexadecimal digits writes bytes, and nothing else does
use Rattle.std.proofs.Common.{◌≡◌, ℕ, ◌%◌, Bool, true, false, ◌&&◌, List, [], ◌∷◌, length, Option, Some, None, refl, sym, ◌∙◌, arith}
use Rattle.std.specs.Prelude.{◌||◌, if◌then◌else◌, is_some}
use Rattle.std.specs.List.{list_all}
use Rattle.std.specs.Char.{is_ascii_hexdigit}
use Rattle.qsg_num.specs.Names.{is_between}
use Rattle.mqsc_values.specs.Hexadecimal.{digit_of, byte_before, bytes_of}

choice : (a b c : Bool) (x y z : ℕ) → is_some (if a then Some x else if b then Some y else if c then Some z else None) ≡ ((c || a) || b)
choice true b true x y z = refl
choice true b false x y z = refl
choice false true true x y z = refl
choice false true false x y z = refl
choice false false true x y z = refl
choice false false false x y z = refl

digit : (b : ℕ) → is_some (digit_of b) ≡ is_ascii_hexdigit b
digit b = choice (is_between 65 70 b) (is_between 97 102 b) (is_between 48 57 b) _ _ _

before : (high low : Option ℕ) (bytes : Option (List ℕ)) → is_some (byte_before high low bytes) ≡ (is_some high && (is_some low && is_some bytes))
before (Some h) (Some l) (Some bytes) = refl
before (Some h) (Some l) None = refl
before (Some h) None bytes = refl
before None low bytes = refl

pub even_digits : (text : List ℕ) → length text % 2 ≡ 0 → list_all is_ascii_hexdigit text ≡ is_some (bytes_of text)
even_digits [] even = refl
even_digits (b ∷ []) even = absurd (omega arith)
even_digits (b ∷ c ∷ rest) even =
    sym (before (digit_of b) (digit_of c) (bytes_of rest) ∙ rw (digit b, digit c, ← even_digits rest (omega arith)) refl)

nothing : (high low : Option ℕ) → is_some (byte_before high low None) ≡ false
nothing (Some h) (Some l) = refl
nothing (Some h) None = refl
nothing None low = refl

none_before : (high low : Option ℕ) (bytes : Option (List ℕ)) → is_some bytes ≡ false → is_some (byte_before high low bytes) ≡ false
none_before high low None e = nothing high low
none_before high low (Some bytes) e = absurd cc

pub odd_digits : (text : List ℕ) → length text % 2 ≡ 1 → false ≡ is_some (bytes_of text)
odd_digits [] odd = absurd (omega arith)
odd_digits (b ∷ []) odd = refl
odd_digits (b ∷ c ∷ rest) odd = sym (none_before (digit_of b) (digit_of c) (bytes_of rest) (sym (odd_digits rest (omega arith))))
