-- what the words of a DEFINE define
use Rattle.std.specs.Prelude.{ℕ, Bool, true, false, List, [], ◌∷◌, find, codes, Option, Some, None, option_map, option_and_then, unwrap_or, if◌then◌else◌}
use Rattle.mqsc_lex.specs.declared.words.Word.{Word}
use Rattle.mqsc_lex.specs.declared.words.Text.{Text}
use Rattle.qsg_num.specs.declared.seats.Priority.{Priority}
use Rattle.qsg_num.specs.declared.seats.Priority.TheVariants as priority
use Rattle.qsg_num.specs.declared.words.Rules.{Rules}
use Rattle.qsg_num.specs.declared.words.Delivery.{Delivery}
use Rattle.qsg_num.specs.declared.words.Delivery.TheVariants as delivery
use Rattle.qsg_num.specs.Seats.{priority_at}
use Rattle.qsg_objects.specs.declared.definitions.CfstructDef.{CfstructDef}
use Rattle.qsg_objects.specs.declared.definitions.QlocalDef.{QlocalDef}
use Rattle.qsg_objects.specs.declared.definitions.Definition.{Definition}
use Rattle.qsg_objects.specs.declared.definitions.Definition.TheVariants as definition
use Rattle.mqsc_values.specs.declared.numbers.Number.{Number}
use Rattle.mqsc_values.specs.declared.numbers.Number.TheVariants.{Value, TooLarge, Bad}
use Rattle.mqsc_values.specs.Numbers.{number_of}
use Rattle.mqsc_define.specs.declared.keywords.Object.{Object}
use Rattle.mqsc_define.specs.declared.keywords.Object.TheVariants as object
use Rattle.mqsc_define.specs.declared.keywords.Keyword.{Keyword}
use Rattle.mqsc_define.specs.declared.keywords.Keyword.TheVariants as keyword
use Rattle.mqsc_define.specs.Values.{is_text, kilobytes_of, block_of}
use Rattle.mqsc_define.specs.Faults.{has_keyword, object_of}

-- the text of a word's value, if it has one
abbrev pub value_text : Word → Option (List ℕ)
value_text word = option_map (λ (value : Text). value.text) word.value

-- the text behind a keyword, if that is there
abbrev pub text_behind : Keyword → List Word → Option (List ℕ)
text_behind keyword words = option_and_then value_text (find (has_keyword keyword) words)

abbrev pub number_or : ℕ → Number → ℕ
number_or default (Value n) = n
number_or default TooLarge = default
number_or default Bad = default

-- The values of keywords, with their defaults.

abbrev pub text_or_empty : Option (List ℕ) → List ℕ
text_or_empty text = unwrap_or text []

-- whether a text is this one
abbrev pub is_said : List ℕ → Bool → Option (List ℕ) → Bool
is_said wanted default None = default
is_said wanted default (Some text) = is_text wanted text

abbrev pub count_or : ℕ → ℕ → Option (List ℕ) → ℕ
count_or default most None = default
count_or default most (Some text) = number_or default (number_of text most)

abbrev pub kilobytes_or : ℕ → Option (List ℕ) → ℕ
kilobytes_or default None = default
kilobytes_or default (Some text) = number_or default (kilobytes_of text 64)

abbrev pub block_or : ℕ → Option (List ℕ) → ℕ
block_or default None = default
block_or default (Some text) = unwrap_or (block_of text) default

abbrev pub priority_or : Priority → ℕ → Priority
priority_or default n = unwrap_or (priority_at n) default

abbrev pub delivery_of : Bool → Delivery
delivery_of fifo = if fifo then delivery.Fifo else delivery.Priority

abbrev pub buffers_of : Option (List ℕ) → Option ℕ
buffers_of None = None
buffers_of (Some text) = Some (number_or 0 (number_of text 9999))

abbrev pub expands_of : Option (List ℕ) → Option Bool
expands_of None = None
expands_of (Some text) = Some (is_text (codes "YES") text)

-- the offload rules
abbrev pub rules_of : List Word → Rules
rules_of words = record {
  threshold =
      count_or 70 100 (text_behind keyword.Offld1th words)
      ∷ count_or 80 100 (text_behind keyword.Offld2th words)
      ∷ count_or 90 100 (text_behind keyword.Offld3th words) ∷ [];
  size_k =
      kilobytes_or 32 (text_behind keyword.Offld1sz words)
      ∷ kilobytes_or 4 (text_behind keyword.Offld2sz words)
      ∷ kilobytes_or 0 (text_behind keyword.Offld3sz words) ∷ [];
}

-- the structure of a name and of keywords
abbrev pub structure_of : List ℕ → List Word → CfstructDef
structure_of name words = record {
  name = name;
  dsgroup = text_or_empty (text_behind keyword.Dsgroup words);
  recover = is_said (codes "YES") true (text_behind keyword.Recover words);
  rules = rules_of words;
  dsblock = block_or 262144 (text_behind keyword.Dsblock words);
  dsbufs = buffers_of (text_behind keyword.Dsbufs words);
  dsexpand = expands_of (text_behind keyword.Dsexpand words);
  descr = text_behind keyword.Descr words;
}

-- the queue of a name and of keywords
abbrev pub queue_of : List ℕ → List Word → QlocalDef
queue_of name words = record {
  name = name;
  cfstruct = text_or_empty (text_behind keyword.Cfstruct words);
  put = is_said (codes "ENABLED") true (text_behind keyword.Put words);
  get = is_said (codes "ENABLED") true (text_behind keyword.Get words);
  defprty = priority_or priority.Zero (count_or 0 9 (text_behind keyword.Defprty words));
  defpsist = is_said (codes "YES") false (text_behind keyword.Defpsist words);
  msgdlvsq = delivery_of (is_said (codes "FIFO") false (text_behind keyword.Msgdlvsq words));
  maxdepth = count_or 999999999 999999999 (text_behind keyword.Maxdepth words);
  maxmsgl = count_or 4194304 104857600 (text_behind keyword.Maxmsgl words);
  descr = text_behind keyword.Descr words;
}

abbrev pub definition_by : Option Object → List ℕ → List Word → Definition
definition_by None name keywords = definition.Qlocal (queue_of name keywords)
definition_by (Some object.Cfstruct) name keywords = definition.Cfstruct (structure_of name keywords)
definition_by (Some object.Qlocal) name keywords = definition.Qlocal (queue_of name keywords)

-- What words without a fault define. Of others it says nothing that counts.
abbrev pub definition_of : List Word → Definition
definition_of [] = definition.Qlocal (queue_of [] [])
definition_of (verb ∷ []) = definition.Qlocal (queue_of [] [])
definition_of (verb ∷ word ∷ keywords) = definition_by (object_of word) (text_or_empty (value_text word)) keywords
