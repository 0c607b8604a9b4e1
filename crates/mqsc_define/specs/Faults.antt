-- the first fault of the words of a DEFINE
use Rattle.std.specs.Prelude.{ℕ, ◌+◌, Bool, not, ◌||◌, ◌&&◌, if◌then◌else◌, List, [], ◌∷◌, ◌++◌, length, find, codes, Option, Some, None, is_none, option_map}
use Rattle.std.specs.List.{list_any}
use Rattle.std.specs.Option.{option_or}
use Rattle.mqsc_lex.specs.declared.words.Word.{Word}
use Rattle.mqsc_define.specs.declared.faults.Required.{Required}
use Rattle.mqsc_define.specs.declared.faults.DefineFault.{DefineFault}
use Rattle.mqsc_define.specs.declared.faults.DefineFault.TheVariants.{UnknownVerb, UnknownObject, UnknownKeyword, Twice, Missing}
use Rattle.mqsc_define.specs.declared.keywords.Object.{Object}
use Rattle.mqsc_define.specs.declared.keywords.Object.TheVariants as object
use Rattle.mqsc_define.specs.declared.keywords.Keyword.{Keyword}
use Rattle.mqsc_define.specs.Keywords.{text_of_required, text_of_keyword, keywords_of, required_of, form_of_name, form_of_keyword}
use Rattle.mqsc_define.specs.Values.{is_text, value_fault}

-- A word's plain key is this text. A quoted key never counts.
abbrev pub has_key : List ℕ → Word → Bool
has_key text word = not word.key_quoted && is_text text word.key

-- a verb has no value
abbrev pub is_verb : Word → Bool
is_verb word = (has_key (codes "DEFINE") word || has_key (codes "DEF") word) && is_none word.value

-- the object that a word names
abbrev pub object_of : Word → Option Object
object_of word =
    if has_key (codes "CFSTRUCT") word then Some object.Cfstruct
    else if has_key (codes "QLOCAL") word || has_key (codes "QL") word then Some object.Qlocal
    else None

abbrev pub has_keyword : Keyword → Word → Bool
has_keyword keyword word = has_key (text_of_keyword keyword) word

-- the keyword of a word, among those of an object
abbrev pub keyword_of : Object → Word → Option Keyword
keyword_of object word = find (λ keyword. has_keyword keyword word) (keywords_of object)

-- what is wrong with a word that has this keyword, at a place behind these keywords
abbrev pub known_fault : ℕ → List Word → Word → Keyword → Option DefineFault
known_fault place before word keyword =
    if list_any (has_keyword keyword) before then Some (Twice place)
    else value_fault place (form_of_keyword keyword) word.value

-- what is wrong with a word that has this keyword of the object, or none
abbrev pub keyword_fault : ℕ → List Word → Word → Option Keyword → Option DefineFault
keyword_fault place before word None = Some (UnknownKeyword place)
keyword_fault place before word (Some keyword) = known_fault place before word keyword

-- what is wrong with a word of an object behind these keywords; verb and object stand before them
abbrev pub word_fault : Object → List Word → Word → Option DefineFault
word_fault object before word = keyword_fault (2 + length before) before word (keyword_of object word)

-- the first fault of these words, behind those
abbrev pub words_fault : Object → List Word → List Word → Option DefineFault
words_fault object before [] = None
words_fault object before (word ∷ words) = option_or (word_fault object before word) (words_fault object (before ++ word ∷ []) words)

-- no word has this keyword
abbrev pub is_absent : List Word → Required → Bool
is_absent words required = not (list_any (has_key (text_of_required required)) words)

-- the first required keyword that is absent
abbrev pub missing_fault : Object → List Word → Option DefineFault
missing_fault object words = option_map Missing (find (is_absent words) (required_of object))

-- the fault of an object's name, then of its keywords, then of their absence
abbrev pub named_fault : Option Object → Word → List Word → Option DefineFault
named_fault None word keywords = Some UnknownObject
named_fault (Some object) word keywords =
    option_or (value_fault 1 (form_of_name object) word.value)
    (option_or (words_fault object [] keywords) (missing_fault object keywords))

-- behind the verb
abbrev pub object_fault : List Word → Option DefineFault
object_fault [] = Some UnknownObject
object_fault (word ∷ keywords) = named_fault (object_of word) word keywords

-- the first fault of the words of a DEFINE; none where they are a definition
abbrev pub define_fault : List Word → Option DefineFault
define_fault [] = Some UnknownVerb
define_fault (verb ∷ words) = if is_verb verb then object_fault words else Some UnknownVerb
