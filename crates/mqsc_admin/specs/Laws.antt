-- what holds of the words of commands
use Rattle.std.specs.Prelude.{◌≡◌, ℕ, ◌<◌, Bool, true, false, List, ◌∷◌, ◌++◌, take, slice_get, Option, Some, None}
use Rattle.std.specs.List.{list_any}
use Rattle.std.specs.Option.{option_and_then}
use Rattle.mqsc_lex.specs.declared.words.Word.{Word}
use Rattle.mqsc_define.specs.declared.faults.DefineFault.{DefineFault}
use Rattle.mqsc_admin.specs.declared.keywords.Keyword.{Keyword}
use Rattle.mqsc_admin.specs.Faults.{word_fault}

-- what is wrong with the word at a place, from 0, of words the first of which stands at another place of the command
abbrev pub fault_at : List Keyword → ℕ → List Word → ℕ → Option DefineFault
fault_at allowed first words place = option_and_then (word_fault allowed first (take place words)) (slice_get words place)

-- It stands at a place, and none stands at a place before.
pub record IsFirstFault (allowed : List Keyword) (first : ℕ) (words : List Word) (fault : DefineFault) : Type 0 where
  pub place : ℕ
  pub stands : fault_at allowed first words place ≡ Some fault
  pub none_before : (before : ℕ) → before < place → fault_at allowed first words before ≡ None

-- One word passes, and none before it or behind it does.
pub record HasOne (test : Word → Bool) (words : List Word) : Type 0 where
  pub front : List Word
  pub word : Word
  pub back : List Word
  pub parts : words ≡ front ++ word ∷ back
  pub passes : test word ≡ true
  pub none_before : list_any test front ≡ false
  pub none_behind : list_any test back ≡ false
