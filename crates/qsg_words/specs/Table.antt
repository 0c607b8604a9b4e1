-- what the words of the command line ask for
use Rattle.std.specs.Prelude.{◌≡◌, Bool, true, false, not, ◌&&◌, if◌then◌else◌, List, [], ◌∷◌, Option, Some, None, is_some, option_map, Result, Ok, Err, nat_eq, codes, ℕ}
use Rattle.std.specs.Cmp.Lexicographic.{pointwise}
use Rattle.clap.specs.Words.{Text, fault_of, matches_of}
use Rattle.clap.specs.Kinds.{Kinds}
use Rattle.clap.specs.declared.error.kind.ErrorKind.{ErrorKind}
use Rattle.clap.specs.declared.error.kind.ErrorKind.TheVariants.{OutOfMemory}
use Rattle.qsg_words.specs.declared.command.Command.{Command}
use Rattle.qsg_words.specs.declared.command.Command.TheVariants.{Replay, Check}
use Rattle.qsg_words.specs.declared.command.WordsError.{WordsError}
use Rattle.qsg_words.specs.declared.command.WordsError.TheVariants.{Usage, NoMemory}
use Rattle.qsg_words.specs.Form.{Words, form, given_by}
use Rattle.qsg_words.specs.Numbers.{number_of}

-- a text is this one
abbrev pub is_text : Text → Text → Bool
is_text = pointwise nat_eq

-- a replay by this seed, which has to be a number, or by none
abbrev pub asked_replay : Option Text → Option Command
asked_replay None = Some (Replay None)
asked_replay (Some text) = option_map (λ (n : ℕ). Replay (Some n)) (number_of text)

-- the command of a word that stands alone, with a seed or without one
abbrev pub asked_alone : Text → Option Text → Option Command
asked_alone word seed = if is_text word (codes "replay") then asked_replay seed
    else (if is_text word (codes "check") && not (is_some seed) then Some Check else None)

-- the command of what the words give, if there is one
abbrev pub asked : Words → Option Command
asked given = by_word given.word
  where
    by_word : Option Text → Option Command
    by_word None = None
    by_word (Some word) = if is_some given.number then None else asked_alone word given.seed

abbrev pub is_right : Kinds → Bool
is_right [] = true
is_right (kind ∷ kinds) = false

-- what words ask for, where they have the form of a command line and give a command
abbrev pub command_of : List Text → Option Command
command_of words = if is_right (fault_of form words) then asked (given_by (matches_of form words)) else None

-- why an error of clap means that words ask for nothing
abbrev pub refused_by : ErrorKind → WordsError
refused_by OutOfMemory = NoMemory
refused_by other = Usage

-- an answer, unless memory ran out
abbrev pub Gives : Option Command → Result Command WordsError → Type 0
Gives wanted (Ok command) = wanted ≡ Some command
Gives wanted (Err Usage) = wanted ≡ None
Gives wanted (Err NoMemory) = Unit {0}
