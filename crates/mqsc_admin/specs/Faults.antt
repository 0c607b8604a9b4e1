-- the first fault of the words of a command
use Rattle.std.specs.Prelude.{ℕ, ◌+◌, Bool, not, ◌||◌, ◌&&◌, if◌then◌else◌, List, [], ◌∷◌, ◌++◌, length, find, codes, Option, Some, None, is_none, option_map}
use Rattle.std.specs.List.{list_any}
use Rattle.std.specs.Option.{option_or}
use Rattle.mqsc_lex.specs.declared.words.Word.{Word}
use Rattle.mqsc_define.specs.declared.faults.Required.{Required}
use Rattle.mqsc_define.specs.declared.faults.Required.TheVariants as required
use Rattle.mqsc_define.specs.declared.faults.DefineFault.{DefineFault}
use Rattle.mqsc_define.specs.declared.faults.DefineFault.TheVariants.{UnknownVerb, UnknownObject, UnknownKeyword, Twice, Missing}
use Rattle.mqsc_define.specs.Keywords.{text_of_required}
use Rattle.mqsc_define.specs.Faults.{has_key}
use Rattle.mqsc_admin.specs.declared.keywords.Verb.{Verb}
use Rattle.mqsc_admin.specs.declared.keywords.Verb.TheVariants as verb
use Rattle.mqsc_admin.specs.declared.keywords.Object.{Object}
use Rattle.mqsc_admin.specs.declared.keywords.Object.TheVariants as object
use Rattle.mqsc_admin.specs.declared.keywords.Keyword.{Keyword}
use Rattle.mqsc_admin.specs.declared.keywords.Keyword.TheVariants as keyword
use Rattle.mqsc_admin.specs.Keywords.{text_of, form_of_name, form_of_value}
use Rattle.mqsc_admin.specs.Values.{value_fault}

-- The word of a verb has no value.
abbrev pub is_verb : List ℕ → Word → Bool
is_verb text word = has_key text word && is_none word.value

-- the verb that a word is
abbrev pub verb_of : Word → Option Verb
verb_of word =
    if is_verb (codes "BACKUP") word then Some verb.Backup
    else if is_verb (codes "RECOVER") word then Some verb.Recover
    else if is_verb (codes "RESET") word then Some verb.Reset
    else if is_verb (codes "DISPLAY") word then Some verb.Display
    else None

-- the object of DISPLAY that a word names
abbrev pub object_of : Word → Option Object
object_of word =
    if has_key (codes "CFSTATUS") word then Some object.Cfstatus
    else if has_key (codes "QUEUE") word then Some object.Queue
    else if has_key (codes "SMDS") word then Some object.Smds
    else None

abbrev pub has_keyword : Keyword → Word → Bool
has_keyword keyword word = has_key (text_of keyword) word

-- ACCESS or STATUS, which stand for one another: a RESET has one of the two
abbrev pub is_wanted : Word → Bool
is_wanted word = has_keyword keyword.Access word || has_keyword keyword.Status word

-- A word that stands before one of this keyword takes its place.
abbrev pub takes_place : Keyword → Word → Bool
takes_place keyword.Access word = is_wanted word
takes_place keyword.Status word = is_wanted word
takes_place keyword word = has_keyword keyword word

-- the keyword of a word, among these
abbrev pub keyword_of : List Keyword → Word → Option Keyword
keyword_of allowed word = find (λ keyword. has_keyword keyword word) allowed

-- what is wrong with a word that has this keyword, or none, at a place behind these words
abbrev pub keyword_fault : ℕ → List Word → Word → Option Keyword → Option DefineFault
keyword_fault place before word None = Some (UnknownKeyword place)
keyword_fault place before word (Some keyword) =
    if list_any (takes_place keyword) before then Some (Twice place)
    else value_fault place (form_of_value keyword) word.value

-- what is wrong with a word behind these, the first of which stands at this place
abbrev pub word_fault : List Keyword → ℕ → List Word → Word → Option DefineFault
word_fault allowed place before word = keyword_fault (place + length before) before word (keyword_of allowed word)

-- the first fault of these words, behind those
abbrev pub words_fault : List Keyword → ℕ → List Word → List Word → Option DefineFault
words_fault allowed place before [] = None
words_fault allowed place before (word ∷ words) =
    option_or (word_fault allowed place before word) (words_fault allowed place (before ++ word ∷ []) words)

-- a word that says what is required
abbrev pub says : Required → Word → Bool
says required.Access word = is_wanted word
says required word = has_key (text_of_required required) word

-- no word says it
abbrev pub is_absent : List Word → Required → Bool
is_absent words required = not (list_any (says required) words)

-- the first required keyword that is absent
abbrev pub missing_fault : List Required → List Word → Option DefineFault
missing_fault required words = option_map Missing (find (is_absent words) required)

-- the first fault of words that begin at this place: of one of them, and then of what is absent
abbrev pub keywords_fault : List Keyword → List Required → ℕ → List Word → Option DefineFault
keywords_fault allowed required place words = option_or (words_fault allowed place [] words) (missing_fault required words)

-- behind the object of a DISPLAY
abbrev pub shown_fault : Object → List Word → Option DefineFault
shown_fault object.Cfstatus words = keywords_fault [] [] 2 words
shown_fault object.Queue words = keywords_fault [] [] 2 words
shown_fault object.Smds words = keywords_fault (keyword.Cfstruct ∷ []) (required.Cfstruct ∷ []) 2 words

-- of an object, or none
abbrev pub object_fault : Option Object → Word → List Word → Option DefineFault
object_fault None word words = Some UnknownObject
object_fault (Some object) word words = option_or (value_fault 1 (form_of_name object) word.value) (shown_fault object words)

-- behind DISPLAY
abbrev pub display_fault : List Word → Option DefineFault
display_fault [] = Some UnknownObject
display_fault (word ∷ words) = object_fault (object_of word) word words

-- behind a verb, or none
abbrev pub verb_fault : Option Verb → List Word → Option DefineFault
verb_fault None words = Some UnknownVerb
verb_fault (Some verb.Backup) words = keywords_fault (keyword.Cfstruct ∷ keyword.Exclint ∷ []) (required.Cfstruct ∷ []) 1 words
verb_fault (Some verb.Recover) words = keywords_fault (keyword.Cfstruct ∷ keyword.Type ∷ []) (required.Cfstruct ∷ []) 1 words
verb_fault (Some verb.Reset) words =
    keywords_fault (keyword.Smds ∷ keyword.Cfstruct ∷ keyword.Access ∷ keyword.Status ∷ [])
    (required.Smds ∷ required.Cfstruct ∷ required.Access ∷ []) 1 words
verb_fault (Some verb.Display) words = display_fault words

-- the first fault of the words of a command; none where they are one
abbrev pub admin_fault : List Word → Option DefineFault
admin_fault [] = Some UnknownVerb
admin_fault (word ∷ words) = verb_fault (verb_of word) words
