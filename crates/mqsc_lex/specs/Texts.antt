-- bytes, and the texts that they spell
use Rattle.std.specs.Prelude.{◌≡◌, ℕ, ◌<◌, Bool, true, false, not, nat_lt, ◌==◌, ◌&&◌, ◌||◌, if◌then◌else◌, List, [], ◌∷◌, ◌++◌, length, map}
use Rattle.std.specs.List.{list_all}
use Rattle.std.specs.Char.{to_ascii_uppercase}

-- a space or a tab
abbrev pub is_blank : ℕ → Bool
is_blank b = (b == 32) || (b == 9)

-- a byte of a plain text: no blank, apostrophe or parenthesis
abbrev pub is_plain : ℕ → Bool
is_plain b = not (is_blank b || (b == 39) || (b == 40) || (b == 41))

abbrev pub is_apostrophe : ℕ → Bool
is_apostrophe b = b == 39

-- below 32 and no tab: such a byte has no place anywhere
abbrev pub is_bad : ℕ → Bool
is_bad b = nat_lt b 32 && not (b == 9)

abbrev pub AreAll : (ℕ → Bool) → List ℕ → Type 0
AreAll p bytes = list_all p bytes ≡ true

-- they don't begin with such a byte
abbrev pub BeginsOther : (ℕ → Bool) → List ℕ → Type 0
BeginsOther p [] = Unit {0}
BeginsOther p (b ∷ bytes) = p b ≡ false

-- each apostrophe stands twice
abbrev pub doubled : List ℕ → List ℕ
doubled [] = []
doubled (b ∷ text) = if is_apostrophe b then 39 ∷ 39 ∷ doubled text else b ∷ doubled text

-- The bytes spell the text. A quoted one stands between apostrophes; a plain one is folded to upper case.
abbrev pub IsSpelled : Bool → List ℕ → List ℕ → Type 0
IsSpelled true text bytes = bytes ≡ 39 ∷ (doubled text ++ 39 ∷ [])
IsSpelled false text bytes = (0 < length bytes) × AreAll is_plain bytes × (text ≡ map to_ascii_uppercase bytes)

-- the bytes that would go on with a text
abbrev pub goes_on : Bool → ℕ → Bool
goes_on true = is_apostrophe
goes_on false = is_plain

-- A text stands at the front of the bytes, as far as it goes, and rest after it.
pub record IsTextAt (quoted : Bool) (text bytes rest : List ℕ) : Type 0 where
  pub spelling : List ℕ
  pub spelled : IsSpelled quoted text spelling
  pub split : bytes ≡ spelling ++ rest
  pub ends : BeginsOther (goes_on quoted) rest

-- An apostrophe opens a text that isn't closed: after it each apostrophe stands twice, to the end.
abbrev pub IsUnclosed : List ℕ → Type 0
IsUnclosed bytes = (text : List ℕ) × (bytes ≡ 39 ∷ doubled text)
