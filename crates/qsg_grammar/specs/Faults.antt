-- the first fault of the words of a statement
use Rattle.std.specs.Prelude.{ℕ, ◌+◌, Bool, nat_le, nat_lt, ◌||◌, if◌then◌else◌, List, [], ◌∷◌, ◌++◌, length, drop, find, position, slice_get, codes, Option, Some, None, is_some, is_none, option_map, unwrap_or}
use Rattle.std.specs.List.{list_any}
use Rattle.std.specs.Option.{option_or}
use Rattle.mqsc_lex.specs.declared.words.Word.{Word}
use Rattle.mqsc_lex.specs.declared.words.Text.{Text}
use Rattle.mqsc_define.specs.Faults.{has_key, define_fault}
use Rattle.mqsc_define.specs.Definitions.{definition_of}
use Rattle.mqsc_admin.specs.declared.admins.Admin.{Admin}
use Rattle.mqsc_admin.specs.declared.admins.Admin.TheVariants as admin
use Rattle.mqsc_admin.specs.Faults.{admin_fault}
use Rattle.mqsc_admin.specs.Admins.{admin_of}
use Rattle.qsg_num.specs.declared.ids.Actor.TheVariants.{Operator}
use Rattle.qsg_objects.specs.Registry.{refusal}
use Rattle.qsg_draft.specs.declared.stages.Stage.{Stage}
use Rattle.qsg_draft.specs.declared.stages.Stage.TheVariants as stage
use Rattle.qsg_draft.specs.Contents.{Contents}
use Rattle.qsg_draft.specs.Lookups.{member_named, has_section}
use Rattle.qsg_draft.specs.Sizes.{device_bytes}
use Rattle.qsg_grammar.specs.declared.kinds.Kind.{Kind}
use Rattle.qsg_grammar.specs.declared.kinds.Kind.TheVariants.{Define, Command, Listed}
use Rattle.qsg_grammar.specs.declared.kinds.Row.{Row}
use Rattle.qsg_grammar.specs.declared.kinds.Row.TheVariants as row
use Rattle.qsg_grammar.specs.declared.slots.Slot.{Slot}
use Rattle.qsg_grammar.specs.declared.keywords.Keyword.{Keyword}
use Rattle.qsg_grammar.specs.declared.keywords.Keyword.TheVariants as keyword
use Rattle.qsg_grammar.specs.declared.faults.Fault.{Fault}
use Rattle.qsg_grammar.specs.declared.faults.Fault.TheVariants.{NoGroup, UnknownName, UnknownWord, Repeated, TooMany, TooLarge, Missing, Define as in_definition, Object as of_object}
use Rattle.qsg_grammar.specs.Table.{slots_of, keywords_of, lack_of, text_of}
use Rattle.qsg_grammar.specs.Starting.{kind_of}
use Rattle.qsg_grammar.specs.Values.{bad_number_unless, text_fault, is_repeated, is_right, limit_fault}

-- Of the first word, once its place is right: the ninth MEMBER, a second OPERATOR, and END with too much before it.

abbrev pub end_fault : ℕ → ℕ → Option Fault
end_fault devices steps =
    if nat_lt 1073741824 devices then Some (TooLarge 1073741824)
    else if nat_lt 10000000 steps then Some (TooLarge 10000000)
    else None

abbrev pub verb_fault : Contents → Row → Option Fault
verb_fault c row.Member = if nat_le 8 (length c.members) then Some (TooMany 8) else None
verb_fault c row.Operator = if has_section Operator c then Some (Repeated 0) else None
verb_fault c row.End = end_fault (device_bytes c) c.steps
verb_fault c other = None

-- Of a word behind it. Those before that word count as what they are: the first of them is its subject.

-- the text of the first of these words
abbrev pub subject_of : List Word → List ℕ
subject_of [] = []
subject_of (word ∷ words) = word.key

abbrev pub unknown_if : ℕ → Bool → Option Fault
unknown_if place bad = if bad then Some (UnknownWord place) else None

abbrev pub repeated_if : ℕ → Bool → Option Fault
repeated_if place bad = if bad then Some (Repeated place) else None

-- of a word that has to be this, behind those
abbrev pub slot_fault : Contents → List Word → Slot → Word → Option Fault
slot_fault c before slot word =
    let place = 1 + length before in
    option_or (text_fault c place slot word.key)
    (option_or (unknown_if place (is_some word.value)) (repeated_if place (is_repeated c slot (subject_of before) word.key)))

abbrev pub has_keyword : Keyword → Word → Bool
has_keyword keyword word = has_key (text_of keyword) word

-- BODY, HEX or SIZE, which stand for one another
abbrev pub is_body : Word → Bool
is_body word = has_keyword keyword.Body word || has_keyword keyword.Hex word || has_keyword keyword.Size word

-- A word that stands before one of this keyword takes its place.
abbrev pub takes_place : Keyword → Word → Bool
takes_place keyword.Body word = is_body word
takes_place keyword.Hex word = is_body word
takes_place keyword.Size word = is_body word
takes_place keyword word = has_keyword keyword word

-- the keyword of a word, among these
abbrev pub keyword_of : List Keyword → Word → Option Keyword
keyword_of allowed word = find (λ keyword. has_keyword keyword word) allowed

-- of the value of a keyword, behind those keywords; the subject is the text right behind the first word
abbrev pub value_fault : Contents → List ℕ → List Word → ℕ → Keyword → List ℕ → Option Fault
value_fault c subject before place keyword text =
    option_or (bad_number_unless place (is_right keyword text))
    (option_or (repeated_if place (list_any (takes_place keyword) before)) (limit_fault c keyword subject text))

-- of a word with this keyword, or none, and with this value, or none
abbrev pub keyword_fault : Contents → List ℕ → List Word → ℕ → Option Keyword → Option Text → Option Fault
keyword_fault c subject before place None value = Some (UnknownWord place)
keyword_fault c subject before place (Some keyword) None = Some (UnknownWord place)
keyword_fault c subject before place (Some keyword) (Some value) = value_fault c subject before place keyword value.text

-- of a word in a slot, or behind all slots
abbrev pub placed_fault : Contents → Row → List Word → Word → Option Slot → Option Fault
placed_fault c row before word (Some slot) = slot_fault c before slot word
placed_fault c row before word None =
    keyword_fault c (subject_of before) (drop (length (slots_of row)) before) (1 + length before) (keyword_of (keywords_of row) word) word.value

-- of a word behind those that stand behind the first
abbrev pub word_fault : Contents → Row → List Word → Word → Option Fault
word_fault c row before word = placed_fault c row before word (slice_get (slots_of row) (length before))

-- the first fault of these words, behind those
abbrev pub words_fault : Contents → Row → List Word → List Word → Option Fault
words_fault c row before [] = None
words_fault c row before (word ∷ words) = option_or (word_fault c row before word) (words_fault c row (before ++ word ∷ []) words)

-- the first word that isn't there
abbrev pub missing_fault : Row → List Word → Option Fault
missing_fault row words = option_map (λ slot. Missing (lack_of slot)) (slice_get (slots_of row) (length words))

-- the words behind the first
abbrev pub behind : List Word → List Word
behind [] = []
behind (word ∷ words) = words

-- of a statement of the table: of its first word, of those behind it, and then of what is missing
abbrev pub row_fault : Contents → Row → List Word → Option Fault
row_fault c row words = option_or (verb_fault c row) (option_or (words_fault c row [] (behind words)) (missing_fault row (behind words)))

-- Of definitions and commands.

-- of a DEFINE: of its words, and then of the object
abbrev pub definition_fault : Contents → List Word → Option Fault
definition_fault c words = option_or (option_map in_definition (define_fault words)) (option_map of_object (refusal (definition_of words) c.objects))

-- the place of the word SMDS
abbrev pub smds_place : List Word → ℕ
smds_place words = unwrap_or (position (has_key (codes "SMDS")) words) 0

-- a RESET whose member isn't defined
abbrev pub reset_fault : Contents → List Word → Admin → Option Fault
reset_fault c words (admin.ResetSmds member structure wanted) = if is_none (member_named member c) then Some (UnknownName (smds_place words)) else None
reset_fault c words other = None

-- of a command: of its words, and then of the member of a RESET
abbrev pub command_fault : Contents → List Word → Option Fault
command_fault c words = option_or (option_map in_definition (admin_fault words)) (reset_fault c words (admin_of words))

abbrev pub kind_fault : Contents → Kind → List Word → Option Fault
kind_fault c Define words = definition_fault c words
kind_fault c Command words = command_fault c words
kind_fault c (Listed row) words = row_fault c row words

-- of a statement whose first word has no place
abbrev pub start_fault : Stage → Fault
start_fault stage.Start = NoGroup
start_fault other = UnknownWord 0

abbrev pub fault_by : Contents → Option Kind → List Word → Option Fault
fault_by c None words = Some (start_fault c.stage)
fault_by c (Some kind) words = kind_fault c kind words

-- The first fault of the words of a statement behind what was read; none where they are a statement.
abbrev pub statement_fault : Contents → List Word → Option Fault
statement_fault c words = fault_by c (kind_of c words) words
