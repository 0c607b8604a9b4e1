-- what a text is behind what was read: a statement, or a fault
use Rattle.std.specs.Prelude.{◌≡◌, ℕ, List, Option, Some, None}
use Rattle.mqsc_lex.specs.declared.words.Word.{Word}
use Rattle.mqsc_lex.specs.declared.faults.LexFault.{LexFault}
use Rattle.mqsc_lex.specs.Words.{AreWordsOf}
use Rattle.mqsc_lex.specs.Faults.{IsLeftmost}
use Rattle.qsg_draft.specs.Contents.{Contents}
use Rattle.qsg_grammar.specs.declared.kinds.Kind.{Kind}
use Rattle.qsg_grammar.specs.declared.faults.Fault.{Fault}
use Rattle.qsg_grammar.specs.declared.whys.Why.{Why}
use Rattle.qsg_grammar.specs.declared.whys.Why.TheVariants.{Lex}
use Rattle.qsg_grammar.specs.Starting.{kind_of}
use Rattle.qsg_grammar.specs.Faults.{kind_fault, statement_fault}
use Rattle.qsg_grammar.specs.Whys.{why_of}
use Rattle.qsg_statement.specs.declared.statements.Statement.{Statement}
use Rattle.qsg_statement.specs.declared.reading.StatementError.{StatementError}
use Rattle.qsg_statement.specs.declared.reading.StatementError.TheVariants as error
use Rattle.qsg_statement.specs.declared.reading.Refused.{Refused}
use Rattle.qsg_statement.specs.declared.reading.Refused.TheVariants as refused
use Rattle.qsg_statement.specs.Texts.{read_text}
use Rattle.qsg_statement.specs.Statements.{statement_of}

-- The words have no fault, and the statement is what they mean.
pub record MeansWords (c : Contents) (words : List Word) (s : Statement) : Type 0 where
  pub kind : Kind
  pub starts : kind_of c words ≡ Some kind
  pub right : kind_fault c kind words ≡ None
  pub means : s ≡ statement_of c kind words

-- The text is words that mean the statement.
pub record IsStatement (c : Contents) (text : List ℕ) (s : Statement) : Type 0 where
  pub words : List Word
  pub spelled : AreWordsOf words (read_text text)
  pub means : MeansWords c words s

-- The text isn't words, and this is its leftmost fault.
pub record IsNoWords (text : List ℕ) (why : Why) : Type 0 where
  pub fault : LexFault
  pub leftmost : IsLeftmost fault (read_text text)
  pub says : why ≡ Lex fault

-- The text is words, and this is their first fault.
pub record AreWordsAtFault (c : Contents) (text : List ℕ) (why : Why) : Type 0 where
  pub words : List Word
  pub fault : Fault
  pub spelled : AreWordsOf words (read_text text)
  pub stands : statement_fault c words ≡ Some fault
  pub says : why ≡ why_of text words fault

-- the first fault of a text behind what was read
pub data IsWhy (c : Contents) (text : List ℕ) (why : Why) : Type 0 where
  no_words : IsNoWords text why → IsWhy c text why
  words_at_fault : AreWordsAtFault c text why → IsWhy c text why

-- what an error says of the first fault
abbrev pub Says : (Why → Type 0) → StatementError → Type 0
Says P error.NoMemory = Unit {0}
Says P (error.Fault why) = P why

-- what a refusal says of the first fault of words
abbrev pub Refuses : Refused → Option Fault → Type 0
Refuses refused.NoMemory first = Unit {0}
Refuses (refused.Fault f) first = first ≡ Some f

-- what an error says of a refusal of words
abbrev pub SaysWords : List ℕ → List Word → Refused → StatementError → Type 0
SaysWords text words r error.NoMemory = Unit {0}
SaysWords text words refused.NoMemory (error.Fault why) = ⊥
SaysWords text words (refused.Fault f) (error.Fault why) = why ≡ why_of text words f
