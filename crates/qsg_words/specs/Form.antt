-- the command line as clap reads it: a word, a number behind it, and the option of a seed
use Rattle.std.specs.Prelude.{◌≡◌, true, List, [], Option, Some, codes}
use Rattle.clap.specs.Words.{App, Row, Rule, Text, HasKind, fault_of, first_of, matches_of, new_app, new_rule, with_rule}
use Rattle.clap.specs.declared.error.Error.{Error}

abbrev pub word_rule : Rule
word_rule = record (new_rule (codes "word")) { required = true }

abbrev pub number_rule : Rule
number_rule = new_rule (codes "number")

abbrev pub seed_rule : Rule
seed_rule = record (new_rule (codes "seed")) { long = Some (codes "seed") }

-- no program's name stands before the words, and there is no option of help or of a version
abbrev pub bare : App
bare = record (new_app (codes "qsg")) { top = record (new_app (codes "qsg")).top { no_binary_name = true; disable_help_flag = true; disable_version_flag = true } }

abbrev pub form : App
form = with_rule (with_rule (with_rule bare word_rule) number_rule) seed_rule

-- the word, the number and the seed that are given
pub record Words : Type 0 where
  pub word : Option Text
  pub number : Option Text
  pub seed : Option Text

abbrev pub given_by : List Row → Words
given_by rows = record { word = first_of (codes "word") rows; number = first_of (codes "number") rows; seed = first_of (codes "seed") rows }

-- the words have this form, and give that
pub record IsGiven (words : List Text) (word number seed : Option Text) : Type 0 where
  pub right : fault_of form words ≡ []
  pub given : record { word = word; number = number; seed = seed } ≡ given_by (matches_of form words)

-- the words don't have this form, or memory ran out
abbrev pub IsRefused : List Text → Error → Type 0
IsRefused words e = HasKind (fault_of form words) e
