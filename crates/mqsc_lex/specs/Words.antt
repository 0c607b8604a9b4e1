-- the words of a text. Places are counted in bytes from its start: a place and what stands from there on are all of it
use Rattle.std.specs.Prelude.{◌≡◌, ℕ, ◌+◌, Bool, not, ◌==◌, List, [], ◌∷◌, ◌++◌, length, Option, Some, None}
use Rattle.mqsc_lex.specs.Texts.{is_blank, is_bad, AreAll, BeginsOther, IsTextAt}
use Rattle.mqsc_lex.specs.declared.words.Word.{Word}
use Rattle.mqsc_lex.specs.declared.words.Text.{Text}

abbrev pub is_open : ℕ → Bool
is_open b = b == 40

-- blanks, and then bytes of which this holds
pub record IsAfterBlanks (P : List ℕ → Type 0) (bytes : List ℕ) : Type 0 where
  pub blanks : List ℕ
  pub back : List ℕ
  pub blank : AreAll is_blank blanks
  pub split : bytes ≡ blanks ++ back
  pub then : P back

-- the closing parenthesis, and rest after it
abbrev pub IsClosed : List ℕ → List ℕ → Type 0
IsClosed rest bytes = bytes ≡ 41 ∷ rest

-- After an opening parenthesis: a text with blanks round it, and the closing one.
abbrev pub IsTextInside : Text → List ℕ → List ℕ → Type 0
IsTextInside text inside rest = IsAfterBlanks (λ bytes. (after : List ℕ) × IsTextAt text.quoted text.text bytes after × IsAfterBlanks (IsClosed rest) after) inside

-- After an opening parenthesis: at most blanks, and the closing one.
abbrev pub IsEmptyInside : List ℕ → Type 0
IsEmptyInside inside = (rest : List ℕ) × IsAfterBlanks (IsClosed rest) inside

-- a value in parentheses, or none
abbrev pub IsValueAt : Option Text → List ℕ → List ℕ → Type 0
IsValueAt None bytes rest = (bytes ≡ rest) × BeginsOther is_open rest
IsValueAt (Some text) bytes rest = (inside : List ℕ) × (bytes ≡ 40 ∷ inside) × IsTextInside text inside rest

-- A word stands at the front of the bytes, as far as it goes, in a text of so many bytes.
pub record IsWordAt (total : ℕ) (word : Word) (bytes rest : List ℕ) : Type 0 where
  pub behind : List ℕ
  pub key : IsTextAt word.key_quoted word.key bytes behind
  pub value : IsValueAt word.value behind rest
  pub starts : word.start + length bytes ≡ total
  pub ends : word.end + length rest ≡ total

-- a word ends before a blank or at the end
abbrev pub EndsWord : List ℕ → Type 0
EndsWord rest = BeginsOther (λ b. not (is_blank b)) rest

-- Blanks and words, and then, after blanks, bytes of which this holds.
abbrev pub IsWordsThen : (List ℕ → Type 0) → ℕ → List Word → List ℕ → Type 0
IsWordsThen P total [] bytes = IsAfterBlanks P bytes
IsWordsThen P total (w ∷ ws) bytes = IsAfterBlanks (λ back. (rest : List ℕ) × IsWordAt total w back rest × EndsWord rest × IsWordsThen P total ws rest) bytes

-- The text is these words, with blanks between them.
pub record AreWordsOf (words : List Word) (text : List ℕ) : Type 0 where
  pub form : IsWordsThen (λ back. back ≡ []) (length text) words text
  pub clean : AreAll (λ b. not (is_bad b)) text
