-- what holds of the words of statements
use Rattle.std.specs.Prelude.{◌≡◌, ℕ, ◌<◌, List, take, slice_get, Option, Some, None}
use Rattle.std.specs.Option.{option_and_then}
use Rattle.mqsc_lex.specs.declared.words.Word.{Word}
use Rattle.qsg_draft.specs.Contents.{Contents}
use Rattle.qsg_grammar.specs.declared.kinds.Row.{Row}
use Rattle.qsg_grammar.specs.declared.faults.Fault.{Fault}
use Rattle.qsg_grammar.specs.Faults.{word_fault}

-- what is wrong with the word at a place, from 0, of the words behind the first
abbrev pub fault_at : Contents → Row → List Word → ℕ → Option Fault
fault_at c row words place = option_and_then (word_fault c row (take place words)) (slice_get words place)

-- It stands at a place, and none stands at a place before.
pub record IsFirstFault (c : Contents) (row : Row) (words : List Word) (fault : Fault) : Type 0 where
  pub place : ℕ
  pub stands : fault_at c row words place ≡ Some fault
  pub none_before : (before : ℕ) → before < place → fault_at c row words before ≡ None
