-- why a script isn't read, and how that is printed
use Rattle.std.specs.Prelude.{ℕ, ◌-◌, List, [], ◌∷◌, ◌++◌, take, drop, slice_get, codes, Option, Some, None}
use Rattle.std.specs.Fmt.{decimal}
use Rattle.mqsc_lex.specs.declared.words.Word.{Word}
use Rattle.mqsc_lex.specs.declared.faults.LexFault.{LexFault}
use Rattle.mqsc_lex.specs.declared.faults.LexFault.TheVariants as lexical
use Rattle.mqsc_define.specs.declared.faults.DefineFault.{DefineFault}
use Rattle.mqsc_define.specs.declared.faults.DefineFault.TheVariants as definition
use Rattle.mqsc_define.specs.Keywords.{text_of_required}
use Rattle.qsg_objects.specs.declared.registry.ObjectFault.{ObjectFault}
use Rattle.qsg_objects.specs.declared.registry.ObjectFault.TheVariants as object
use Rattle.qsg_grammar.specs.declared.faults.Fault.{Fault}
use Rattle.qsg_grammar.specs.declared.faults.Fault.TheVariants as fault
use Rattle.qsg_grammar.specs.declared.whys.Why.{Why}
use Rattle.qsg_grammar.specs.declared.whys.Why.TheVariants as why
use Rattle.qsg_grammar.specs.Texts.{text_of_lack}

-- the slice of a text that a word is
abbrev pub slice_of : List ℕ → Word → List ℕ
slice_of text word = take (word.end - word.start) (drop word.start text)

-- of the word at a place
abbrev pub slice_by : List ℕ → Option Word → List ℕ
slice_by text None = []
slice_by text (Some word) = slice_of text word

abbrev pub slice_at : List ℕ → List Word → ℕ → List ℕ
slice_at text words place = slice_by text (slice_get words place)

-- of a fault of a definition or command, with the slice of its word
abbrev pub why_of_definition : List ℕ → List Word → DefineFault → Why
why_of_definition text words definition.UnknownVerb = why.UnknownVerb
why_of_definition text words definition.UnknownObject = why.UnknownObject
why_of_definition text words (definition.UnknownKeyword place) = why.UnknownKeyword (slice_at text words place)
why_of_definition text words (definition.Twice place) = why.Twice (slice_at text words place)
why_of_definition text words (definition.NameTooLong place) = why.NameTooLong (slice_at text words place)
why_of_definition text words (definition.BadValue place) = why.BadValue (slice_at text words place)
why_of_definition text words definition.LevelNot5 = why.LevelNot5
why_of_definition text words definition.NoAsterisk = why.NoAsterisk
why_of_definition text words definition.TwoAsterisks = why.TwoAsterisks
why_of_definition text words (definition.Missing keyword) = why.MissingKeyword keyword

-- of a fault of the words of a statement with this text
abbrev pub why_of : List ℕ → List Word → Fault → Why
why_of text words fault.NoGroup = why.NoGroup
why_of text words (fault.BadNumber place) = why.BadNumber (slice_at text words place)
why_of text words (fault.BadName place) = why.BadName (slice_at text words place)
why_of text words (fault.UnknownName place) = why.UnknownName (slice_at text words place)
why_of text words (fault.UnknownWord place) = why.UnknownWord (slice_at text words place)
why_of text words (fault.Repeated place) = why.Repeated (slice_at text words place)
why_of text words (fault.TooMany n) = why.TooMany n
why_of text words (fault.TooLarge n) = why.TooLarge n
why_of text words (fault.Define f) = why_of_definition text words f
why_of text words (fault.Object f) = why.Object f
why_of text words (fault.Missing word) = why.Missing word

-- a name, a blank, and an argument
abbrev pub with_argument : List ℕ → List ℕ → List ℕ
with_argument name argument = name ++ 32 ∷ argument

abbrev pub text_of_lexical : LexFault → List ℕ
text_of_lexical (lexical.UnclosedText at) = with_argument (codes "UnclosedText") (decimal at)
text_of_lexical (lexical.UnclosedParen at) = with_argument (codes "UnclosedParen") (decimal at)
text_of_lexical (lexical.EmptyValue at) = with_argument (codes "EmptyValue") (decimal at)
text_of_lexical (lexical.BadByte at) = with_argument (codes "BadByte") (decimal at)

abbrev pub text_of_object : ObjectFault → List ℕ
text_of_object object.AlreadyDefined = codes "AlreadyDefined"
text_of_object object.NoSuchStructure = codes "NoSuchStructure"
text_of_object object.TooMany = codes "TooMany"

-- It is printed as its name, with its argument behind a blank.
abbrev pub text_of_why : Why → List ℕ
text_of_why why.LongLine = codes "LongLine"
text_of_why why.NotUtf8 = codes "NotUtf8"
text_of_why (why.Lex f) = text_of_lexical f
text_of_why why.NoGroup = codes "NoGroup"
text_of_why (why.BadNumber word) = with_argument (codes "BadNumber") word
text_of_why (why.BadName word) = with_argument (codes "BadName") word
text_of_why (why.UnknownName word) = with_argument (codes "UnknownName") word
text_of_why (why.UnknownWord word) = with_argument (codes "UnknownWord") word
text_of_why (why.Repeated word) = with_argument (codes "Repeated") word
text_of_why (why.TooMany n) = with_argument (codes "TooMany") (decimal n)
text_of_why (why.TooLarge n) = with_argument (codes "TooLarge") (decimal n)
text_of_why why.UnknownVerb = codes "UnknownVerb"
text_of_why why.UnknownObject = codes "UnknownObject"
text_of_why (why.UnknownKeyword word) = with_argument (codes "UnknownKeyword") word
text_of_why (why.Twice word) = with_argument (codes "Twice") word
text_of_why (why.NameTooLong word) = with_argument (codes "NameTooLong") word
text_of_why (why.BadValue word) = with_argument (codes "BadValue") word
text_of_why why.LevelNot5 = codes "LevelNot5"
text_of_why why.NoAsterisk = codes "NoAsterisk"
text_of_why why.TwoAsterisks = codes "TwoAsterisks"
text_of_why (why.Object f) = text_of_object f
text_of_why (why.Missing word) = with_argument (codes "Missing") (text_of_lack word)
text_of_why (why.MissingKeyword keyword) = with_argument (codes "Missing") (text_of_required keyword)
text_of_why why.NoEnd = codes "NoEnd"
