-- the leftmost fault of a text
use Rattle.std.specs.Prelude.{◌≡◌, ◌⊎◌, ℕ, ◌+◌, ◌≤◌, Bool, true, false, ◌==◌, ◌||◌, List, ◌∷◌, ◌++◌, length, nat_le, if◌then◌else◌, Option, Some, None, Result, Ok, Err}
use Rattle.mqsc_lex.specs.Texts.{is_blank, is_bad, IsTextAt, IsUnclosed}
use Rattle.mqsc_lex.specs.Words.{IsTextInside, IsEmptyInside, IsWordAt, IsWordsThen}
use Rattle.mqsc_lex.specs.declared.words.Word.{Word}
use Rattle.mqsc_lex.specs.declared.words.Text.{Text}
use Rattle.mqsc_lex.specs.declared.faults.LexFault.{LexFault}
use Rattle.mqsc_lex.specs.declared.faults.LexFault.TheVariants.{UnclosedText, UnclosedParen, EmptyValue, BadByte}
use Rattle.mqsc_lex.specs.declared.faults.LexError.{LexError}
use Rattle.mqsc_lex.specs.declared.faults.LexError.TheVariants as errors

abbrev pub is_parenthesis : ℕ → Bool
is_parenthesis b = (b == 40) || (b == 41)

-- The bytes from there on are so many fewer than all.
abbrev pub StandsAt : ℕ → ℕ → List ℕ → Type 0
StandsAt total place back = place + length back ≡ total

-- a text, and then the opening parenthesis of its value
abbrev pub IsKeyBefore : List ℕ → List ℕ → Type 0
IsKeyBefore inside bytes = (quoted : Bool) × (text : List ℕ) × IsTextAt quoted text bytes (40 ∷ inside)

-- neither a text nor nothing, and then the closing parenthesis
pub record IsOpenInside (inside : List ℕ) : Type 0 where
  pub not_text : (text : Text) (rest : List ℕ) → IsTextInside text inside rest → ⊥
  pub not_empty : IsEmptyInside inside → ⊥

-- These bytes are at fault where a word begins with them.
abbrev pub IsFaultAt : ℕ → LexFault → List ℕ → Type 0
-- a quoted text isn't closed
IsFaultAt total (UnclosedText place) bytes = StandsAt total place bytes × IsUnclosed bytes
-- a value isn't closed
IsFaultAt total (UnclosedParen place) bytes = (inside : List ℕ) × StandsAt total place (40 ∷ inside) × IsKeyBefore inside bytes × IsOpenInside inside
-- a value has no text
IsFaultAt total (EmptyValue place) bytes = (inside : List ℕ) × StandsAt total place (40 ∷ inside) × IsKeyBefore inside bytes × IsEmptyInside inside
-- a parenthesis where no word has one, or a byte right after a word that isn't part of it and no blank
IsFaultAt total (BadByte place) bytes = (b : ℕ) × (back : List ℕ) × StandsAt total place (b ∷ back)
    × (((bytes ≡ b ∷ back) × (is_parenthesis b ≡ true)) ⊎ ((word : Word) × IsWordAt total word bytes (b ∷ back) × (is_blank b ≡ false)))

-- a byte that has no place anywhere
abbrev pub IsBadAt : ℕ → List ℕ → Type 0
IsBadAt place text = (front : List ℕ) × (b : ℕ) × (back : List ℕ) × (text ≡ front ++ b ∷ back) × (is_bad b ≡ true) × (place ≡ length front)

-- The fault stands in the text: after words that are right in form, or by a byte that has no place anywhere.
abbrev pub HasForm : LexFault → List ℕ → Type 0
HasForm fault text = (words : List Word) × IsWordsThen (IsFaultAt (length text) fault) (length text) words text

abbrev pub Stands : List ℕ → LexFault → Type 0
Stands text (BadByte place) = HasForm (BadByte place) text ⊎ IsBadAt place text
Stands text fault = HasForm fault text

abbrev pub place_of : LexFault → ℕ
place_of (UnclosedText place) = place
place_of (UnclosedParen place) = place
place_of (EmptyValue place) = place
place_of (BadByte place) = place

-- It stands in the text, and none stands further left.
pub record IsLeftmost (fault : LexFault) (text : List ℕ) : Type 0 where
  pub stands : Stands text fault
  pub first : (other : LexFault) → Stands text other → place_of fault ≤ place_of other

-- of the first byte that has no place anywhere and another fault, the one further left
abbrev pub earlier : Option ℕ → LexFault → LexFault
earlier None fault = fault
earlier (Some at) fault = if nat_le at (place_of fault) then BadByte at else fault

-- what an error says of its fault
abbrev pub Says : (LexFault → Type 0) → LexError → Type 0
Says P errors.NoMemory = Unit {0}
Says P (errors.Fault fault) = P fault

-- an answer, unless memory ran out
abbrev pub Gives : Result (List Word) LexFault → Result (List Word) LexError → Type 0
Gives wanted (Ok words) = wanted ≡ Ok words
Gives wanted (Err errors.NoMemory) = Unit {0}
Gives wanted (Err (errors.Fault fault)) = wanted ≡ Err fault
