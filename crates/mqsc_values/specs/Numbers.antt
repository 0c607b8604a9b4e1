-- decimal numbers
use Rattle.std.specs.Prelude.{ℕ, ◌+◌, ◌-◌, ◌*◌, ◌^◌, Bool, true, false, not, nat_le, ◌==◌, ◌&&◌, if◌then◌else◌, List, [], ◌∷◌, length}
use Rattle.std.specs.Char.{is_ascii_digit}
use Rattle.std.specs.List.{list_all}
use Rattle.mqsc_values.specs.declared.numbers.Number.{Number}
use Rattle.mqsc_values.specs.declared.numbers.Number.TheVariants.{Value, TooLarge, Bad}

-- not empty, and nothing stands behind a zero that is first
abbrev pub begins_well : List ℕ → Bool
begins_well [] = false
begins_well (c ∷ []) = true
begins_well (c ∷ d ∷ cs) = not (c == 48)

-- decimal digits without a leading zero
abbrev pub is_number : List ℕ → Bool
is_number text = list_all is_ascii_digit text && begins_well text

-- the number that digits write: each counts by its place
abbrev pub value_of : List ℕ → ℕ
value_of [] = 0
value_of (c ∷ cs) = (c - 48) * 10 ^ length cs + value_of cs

-- what a text says as a number of at most so much
abbrev pub number_of : List ℕ → ℕ → Number
number_of text most = if is_number text then (if nat_le (value_of text) most then Value (value_of text) else TooLarge) else Bad
