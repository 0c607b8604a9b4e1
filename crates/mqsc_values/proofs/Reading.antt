-- what std reads and prints of a number, in our words
use Rattle.std.proofs.Common.{◌≡◌, ℕ, ◌^◌, ◌<◌, ◌≤◌, zero, suc, Bool, true, false, nat_le, if◌then◌else◌, List, [], ◌∷◌, length, get_or, Result, Ok, Err, refl, sym, ◌∙◌, ap, subst, arith, rules}
use Rattle.std.specs.Char.{is_ascii_digit}
use Rattle.std.specs.List.{list_all}
use Rattle.std.specs.Result.{OkIff}
use Rattle.std.specs.Str.Parse.{ParsesUnsigned}
use Rattle.std.specs.Fmt.{decimal}
use Rattle.std.proofs.lemmas.Str.Parse.{IsNumeralModel, numerals_by_weight, parse_digits}
use Rattle.std.proofs.lemmas.Fmt.{decimal_digit, decimal_nonempty, first_decimal, digits_decimal, digits_value-decimal, decimal-digits_value}
use Rattle.std.proofs.lemmas.Bool.Decides.{nat_tests}
use Rattle.mqsc_values.specs.Numbers.{is_number, begins_well, value_of, number_of}
use Rattle.mqsc_values.specs.declared.numbers.Number.{Number}
use Rattle.mqsc_values.specs.declared.numbers.Number.TheVariants.{Value, TooLarge, Bad}
use Rattle.mqsc_values.proofs.Texts.{both, joined}

abbrev pub AreDigits : List ℕ → Type 0
AreDigits text = list_all is_ascii_digit text ≡ true

pub own : IsNumeralModel AreDigits value_of
own = numerals_by_weight AreDigits (search rules) value_of (search rules)

pub digits-number : (text : List ℕ) → is_number text ≡ true → AreDigits text
digits-number text e = (both (list_all is_ascii_digit text) (begins_well text) e).0

pub begins-number : (text : List ℕ) → is_number text ≡ true → begins_well text ≡ true
begins-number text e = (both (list_all is_ascii_digit text) (begins_well text) e).1

pub some-begins : (text : List ℕ) → begins_well text ≡ true → 0 < length text
some-begins [] e = absurd cc
some-begins (c ∷ cs) e = omega arith

zero-begins : (text : List ℕ) → begins_well text ≡ true → get_or text 0 0 ≡ 48 → length text ≡ 1
zero-begins [] e z = absurd cc
zero-begins (c ∷ []) e z = refl
zero-begins (c ∷ d ∷ cs) e z = grind (arith, nat_tests)

-- what is answered where std reads this
abbrev pub answer : {E : Type 0} → ℕ → Result ℕ E → Number
answer most (Ok v) = if nat_le v most then Value v else TooLarge
answer most (Err e) = TooLarge

pub above : (v most : ℕ) → most < v → (if nat_le v most then Value v else TooLarge) ≡ TooLarge
above v most h = grind (arith, nat_tests)

pub within : (v most : ℕ) → v ≤ most → (if nat_le v most then Value v else TooLarge) ≡ Value v
within v most h = grind (arith, nat_tests)

pub number_of-parsed : {E : Type 0} (text : List ℕ) (most : ℕ) (r : Result ℕ E) → most < 2 ^ 64 → is_number text ≡ true
    → OkIff r ((0 < length text) × (value_of text < 2 ^ 64)) (value_of text) → number_of text most ≡ answer most r
number_of-parsed text most (Ok v) fits good said = rw (good, said.1)
number_of-parsed text most (Err e) fits good said =
    let some : 0 < length text = some-begins text (begins-number text good) in
    let large : value_of text < 2 ^ 64 → ⊥ = λ h. said (some, h) in
    rw good (above (value_of text) most (omega arith))

pub number_of-parse : {E : Type 0} (text digits : List ℕ) (most : ℕ) (r : Result ℕ E) → most < 2 ^ 64 → is_number text ≡ true
    → digits ≡ text → ParsesUnsigned 64 10 digits r → number_of text most ≡ answer most r
number_of-parse text digits most r fits good same read =
    number_of-parsed text most r fits good (parse_digits own 64 text r (rw same at read) (digits-number text good))

abbrev choice : Bool → Bool → ℕ → Number
choice good fits v = if good then (if fits then Value v else TooLarge) else Bad

value-choice : (good fits : Bool) (v n : ℕ) → choice good fits v ≡ Value n → (good ≡ true) × (fits ≡ true) × (v ≡ n)
value-choice true true v n e = (refl, refl, cc)
value-choice true false v n e = absurd cc
value-choice false fits v n e = absurd cc

pub text-number_of : (text : List ℕ) (most n : ℕ) → n < 2 ^ 64 → number_of text most ≡ Value n → (decimal n ≡ text) × (n ≤ most)
text-number_of text most n small e =
    let said = value-choice (is_number text) (nat_le (value_of text) most) (value_of text) n e in
    let begins : begins_well text ≡ true = begins-number text said.0 in
    let fits : value_of text < 2 ^ 64 = rw said.2 small in
    let same : decimal (value_of text) ≡ text = decimal-digits_value own text (digits-number text said.0) (some-begins text begins) (zero-begins text begins) fits in
    let low : nat_le n most ≡ true = subst (λ (v : ℕ). nat_le v most ≡ true) said.2 said.1 in
    (ap decimal (sym said.2) ∙ same, grind (arith, nat_tests))

begins-first : (text : List ℕ) → 0 < length text → 48 < get_or text 0 0 → begins_well text ≡ true
begins-first [] some first = absurd (omega arith)
begins-first (c ∷ []) some first = refl
begins-first (c ∷ d ∷ cs) some first = grind (arith, nat_tests)

begins-decimal : (n : ℕ) → n < 2 ^ 64 → begins_well (decimal n) ≡ true
begins-decimal zero small = rw (decimal_digit 0 (omega arith)) refl
begins-decimal (suc n) small = begins-first (decimal (suc n)) (decimal_nonempty (suc n) small) (first_decimal (suc n) (omega arith) small)

number-decimal : (n : ℕ) → n < 2 ^ 64 → is_number (decimal n) ≡ true
number-decimal n small = joined (list_all is_ascii_digit (decimal n)) (begins_well (decimal n)) (digits_decimal own n small) (begins-decimal n small)

pub number_of-fitting : (n most : ℕ) → n < 2 ^ 64 → n ≤ most → number_of (decimal n) most ≡ Value n
number_of-fitting n most small low = rw (number-decimal n small, digits_value-decimal own n small) (within n most low)

pub number_of-larger : (n most : ℕ) → n < 2 ^ 64 → most < n → number_of (decimal n) most ≡ TooLarge
number_of-larger n most small high = rw (number-decimal n small, digits_value-decimal own n small) (above n most high)
