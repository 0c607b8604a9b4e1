-- what std reads of a number, in our words
use Rattle.std.proofs.Common.{◌≡◌, ℕ, ◌^◌, ◌<◌, Bool, true, false, nat_lt, ◌&&◌, if◌then◌else◌, List, length, Option, Some, None, Result, Ok, Err, refl, arith, rules}
use Rattle.std.specs.Char.{is_ascii_digit}
use Rattle.std.specs.List.{list_all}
use Rattle.std.specs.Result.{OkIff}
use Rattle.std.specs.Str.Parse.{ParsesUnsigned}
use Rattle.std.proofs.lemmas.Str.Parse.{IsNumeralModel, numerals_by_weight, parse_digits}
use Rattle.std.proofs.lemmas.Bool.Decides.{nat_tests}
use Rattle.qsg_words.specs.Numbers.{is_number, value_of, number_of}

abbrev AreDigits : List ℕ → Type 0
AreDigits text = list_all is_ascii_digit text ≡ true

own : IsNumeralModel AreDigits value_of
own = numerals_by_weight AreDigits (search rules) value_of (search rules)

both : (a b : Bool) → (a && b) ≡ true → (a ≡ true) × (b ≡ true)
both true true e = (refl, refl)
both true false e = absurd cc
both false b e = absurd cc

some : (n : ℕ) → nat_lt 0 n ≡ true → 0 < n
some n e = grind (arith, nat_tests)

-- what is answered where std reads this
abbrev pub answer : {E : Type 0} → Result ℕ E → Option ℕ
answer (Ok v) = Some v
answer (Err e) = None

fits : (v : ℕ) → v < 2 ^ 64 → (if nat_lt v (2 ^ 64) then Some v else None) ≡ Some v
fits v h = grind (arith, nat_tests)

passes : (v : ℕ) → (v < 2 ^ 64 → ⊥) → (if nat_lt v (2 ^ 64) then Some v else None) ≡ None
passes v h = by_test (nat_lt v (2 ^ 64)) (λ e. h (grind (arith, nat_tests)))
  where
    by_test : (b : Bool) → (b ≡ true → ⊥) → (if b then Some v else None) ≡ None
    by_test true e = absurd (e refl)
    by_test false e = refl

number_of-parsed : {E : Type 0} (text : List ℕ) (r : Result ℕ E) → is_number text ≡ true
    → OkIff r ((0 < length text) × (value_of text < 2 ^ 64)) (value_of text) → number_of text ≡ answer r
number_of-parsed text (Ok v) good said = rw (good, said.1) (fits (value_of text) said.0.1)
number_of-parsed text (Err e) good said =
    let least : 0 < length text = some (length text) (both (nat_lt 0 (length text)) (list_all is_ascii_digit text) good).0 in
    rw good (passes (value_of text) (λ h. said (least, h)))

pub number_of-parse : {E : Type 0} (text digits : List ℕ) (r : Result ℕ E) → is_number text ≡ true
    → digits ≡ text → ParsesUnsigned 64 10 digits r → number_of text ≡ answer r
number_of-parse text digits r good same read =
    number_of-parsed text r good (parse_digits own 64 text r (rw same at read) (both (nat_lt 0 (length text)) (list_all is_ascii_digit text) good).1)
