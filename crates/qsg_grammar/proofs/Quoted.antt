-- a quoted word is a plain text
use Rattle.std.proofs.Common.{◌≡◌, ℕ, true, false, List, [], ◌∷◌, None, refl}
use Rattle.mqsc_lex.specs.declared.words.Word.{Word}
use Rattle.mqsc_define.specs.Faults.{has_key}
use Rattle.qsg_grammar.specs.declared.keywords.Keyword.{Keyword}
use Rattle.qsg_grammar.specs.Table.{text_of}
use Rattle.qsg_grammar.specs.Starting.{opening_kind, definition_kind, task_kind, operator_kind}
use Rattle.qsg_grammar.specs.Faults.{keyword_of}

quoted : (text : List ℕ) (word : Word) → word.key_quoted ≡ true → has_key text word ≡ false
quoted text word is = rw is refl

pub quoted_definition : (word : Word) → word.key_quoted ≡ true → definition_kind word ≡ None
quoted_definition word is = rw is refl

pub quoted_opening : (word : Word) → word.key_quoted ≡ true → opening_kind word ≡ None
quoted_opening word is = rw is refl

pub quoted_task : (word : Word) (words : List Word) → word.key_quoted ≡ true → task_kind word words ≡ None
quoted_task word words is = rw is refl

pub quoted_operator : (word : Word) (words : List Word) → word.key_quoted ≡ true → operator_kind word words ≡ None
quoted_operator word words is = rw is refl

pub quoted_keyword : (allowed : List Keyword) (word : Word) → word.key_quoted ≡ true → keyword_of allowed word ≡ None
quoted_keyword [] word is = refl
quoted_keyword (k ∷ ks) word is = rw (quoted (text_of k) word is) (quoted_keyword ks word is)
