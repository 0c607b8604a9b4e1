-- what the parts of the reader answer
use Rattle.std.specs.Prelude.{◌≡◌, ◌⊎◌, ℕ, Bool, List, ◌∷◌, ◌++◌}
use Rattle.mqsc_lex.specs.Texts.{is_apostrophe, is_plain, AreAll, BeginsOther, doubled, IsUnclosed}
use Rattle.mqsc_lex.specs.Words.{IsTextInside, IsEmptyInside}
use Rattle.mqsc_lex.specs.Faults.{StandsAt, IsOpenInside}
use Rattle.mqsc_lex.specs.declared.reading.Inside.{Inside}
use Rattle.mqsc_lex.specs.declared.reading.Inside.TheVariants as inner
use Rattle.mqsc_lex.specs.declared.faults.LexFault.{LexFault}
use Rattle.mqsc_lex.specs.declared.faults.LexFault.TheVariants.{UnclosedText, UnclosedParen, EmptyValue, BadByte}

-- the bytes as far as all pass, and the rest
pub record IsCut (p : ℕ → Bool) (bytes front back : List ℕ) : Type 0 where
  pub split : bytes ≡ front ++ back
  pub all : AreAll p front
  pub ends : BeginsOther p back

-- no text stands at the front
abbrev pub HasNoText : List ℕ → Type 0
HasNoText bytes = IsUnclosed bytes ⊎ (BeginsOther is_plain bytes × BeginsOther is_apostrophe bytes)

-- After the opening apostrophe: the text, the closing one, and rest.
pub record IsQuotedRest (text bytes rest : List ℕ) : Type 0 where
  pub split : bytes ≡ doubled text ++ 39 ∷ rest
  pub ends : BeginsOther is_apostrophe rest

-- what stands behind an opening parenthesis
abbrev pub IsInside : List ℕ → Inside → Type 0
IsInside inside (inner.Text text rest) = IsTextInside text inside rest.now
IsInside inside inner.Empty = IsEmptyInside inside
IsInside inside inner.Open = IsOpenInside inside

-- A value is at fault, right behind its key.
abbrev pub IsValueFault : ℕ → List ℕ → LexFault → Type 0
IsValueFault total behind (UnclosedText place) = ⊥
IsValueFault total behind (UnclosedParen place) = (inside : List ℕ) × (behind ≡ 40 ∷ inside) × StandsAt total place behind × IsOpenInside inside
IsValueFault total behind (EmptyValue place) = (inside : List ℕ) × (behind ≡ 40 ∷ inside) × StandsAt total place behind × IsEmptyInside inside
IsValueFault total behind (BadByte place) = ⊥
