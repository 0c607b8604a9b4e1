-- the texts of words, and the values of keywords
use Rattle.std.specs.Prelude.{ℕ, ◌≤◌, Bool, true, false, length, if◌then◌else◌, List, [], ◌∷◌, find, slice_get, codes, Option, Some, None, option_map, unwrap_or}
use Rattle.std.specs.Option.{option_and_then, ForSome}
use Rattle.mqsc_lex.specs.declared.words.Word.{Word}
use Rattle.mqsc_values.specs.Numbers.{number_of}
use Rattle.mqsc_values.specs.Hexadecimal.{bytes_of, id_of}
use Rattle.mqsc_define.specs.Values.{is_text}
use Rattle.mqsc_define.specs.Definitions.{value_text, count_or, number_or}
use Rattle.qsg_num.specs.declared.seats.Member.{Member}
use Rattle.qsg_num.specs.declared.seats.Member.TheVariants as member
use Rattle.qsg_num.specs.declared.seats.StructNo.{StructNo}
use Rattle.qsg_num.specs.declared.seats.StructNo.TheVariants as structure
use Rattle.qsg_num.specs.declared.seats.Priority.{Priority}
use Rattle.qsg_num.specs.Seats.{priority_at}
use Rattle.qsg_objects.specs.declared.directives.BodyWord.{BodyWord}
use Rattle.qsg_objects.specs.declared.directives.BodyWord.TheVariants.{Given, Size}
use Rattle.qsg_objects.specs.Registry.{number_named}
use Rattle.qsg_draft.specs.Contents.{Contents}
use Rattle.qsg_draft.specs.Lookups.{member_named}
use Rattle.qsg_grammar.specs.declared.keywords.Keyword.{Keyword}
use Rattle.qsg_grammar.specs.declared.keywords.Keyword.TheVariants as keyword
use Rattle.qsg_grammar.specs.Faults.{has_keyword}

abbrev pub key_or_empty : Option Word → List ℕ
key_or_empty None = []
key_or_empty (Some word) = word.key

-- the text of the word at a place of a statement, from 0
abbrev pub key_at : ℕ → List Word → List ℕ
key_at place words = key_or_empty (slice_get words place)

-- the text behind a keyword, if that is there
abbrev pub text_behind : Keyword → List Word → Option (List ℕ)
text_behind keyword words = option_and_then value_text (find (has_keyword keyword) words)

-- a member and a structure by name; the first where there is none
abbrev pub member_of : List ℕ → Contents → Member
member_of name c = unwrap_or (member_named name c) member.One

abbrev pub structure_of : List ℕ → Contents → StructNo
structure_of name c = unwrap_or (number_named name c.objects) structure.One

-- The values of keywords, with their defaults.

-- the 24 bytes behind MSGID or CORRELID, if it is there
abbrev pub id_behind : Keyword → List Word → Option (List ℕ)
id_behind keyword words = option_and_then id_of (text_behind keyword words)

abbrev pub zeros : List ℕ
zeros = 0 ∷ 0 ∷ 0 ∷ 0 ∷ 0 ∷ 0 ∷ 0 ∷ 0 ∷ 0 ∷ 0 ∷ 0 ∷ 0 ∷ 0 ∷ 0 ∷ 0 ∷ 0 ∷ 0 ∷ 0 ∷ 0 ∷ 0 ∷ 0 ∷ 0 ∷ 0 ∷ 0 ∷ []

-- the bytes that a text in hexadecimal digits writes
abbrev pub hex_body : List ℕ → List ℕ
hex_body text = unwrap_or (bytes_of text) []

-- a body by BODY, HEX or SIZE; of no bytes where none stands
abbrev pub body_by : Option (List ℕ) → Option (List ℕ) → Option (List ℕ) → BodyWord
body_by (Some text) hex size = Given text
body_by None (Some text) size = Given (hex_body text)
body_by None None (Some text) = Size (number_or 0 (number_of text 4194304))
body_by None None None = Given []

abbrev pub body_of : List Word → BodyWord
body_of words = body_by (text_behind keyword.Body words) (text_behind keyword.Hex words) (text_behind keyword.Size words)

-- PRI: none for -1, which is the queue's default
abbrev pub priority_of : Option (List ℕ) → Option Priority
priority_of None = None
priority_of (Some text) = if is_text (codes "-1") text then None else priority_at (number_or 0 (number_of text 9))

-- PERS: none for 2, which is the queue's default
abbrev pub persistent_of : Option (List ℕ) → Option Bool
persistent_of None = None
persistent_of (Some text) =
    if is_text (codes "0") text then Some false
    else if is_text (codes "1") text then Some true
    else None

-- the bytes behind MSGID or CORRELID; zeros where it is absent
abbrev pub id_or_zeros : Keyword → List Word → List ℕ
id_or_zeros keyword words = unwrap_or (id_behind keyword words) zeros

-- a body by BODY or HEX isn't too long
pub record IsBodyRight (words : List Word) : Type 0 where
  pub text : ForSome (text_behind keyword.Body words) (λ text. length text ≤ 4194304)
  pub digits : ForSome (text_behind keyword.Hex words) (λ text. length text ≤ 8388609)
