-- words that clap refuses ask for nothing
use Rattle.std.proofs.Common.{◌≡◌, ◌⊎◌, inl, inr, if◌then◌else◌, [], ◌∷◌, Option, Some, None, Err, refl, sym}
use Rattle.clap.specs.Kinds.{Kinds, IsAmong}
use Rattle.clap.specs.declared.error.kind.ErrorKind.{ErrorKind}
use Rattle.clap.specs.declared.error.kind.ErrorKind.TheVariants.{OutOfMemory}
use Rattle.qsg_words.specs.declared.command.Command.{Command}
use Rattle.qsg_words.specs.declared.command.WordsError.{WordsError}
use Rattle.qsg_words.specs.declared.command.WordsError.TheVariants.{Usage, NoMemory}
use Rattle.qsg_words.specs.Table.{is_right, refused_by, Gives}

nothing : (why : WordsError) → Gives None (Err why)
nothing Usage = refl
nothing NoMemory = tt

pub refuses : (faults : Kinds) (kind : ErrorKind) (wanted : Option Command) → (kind ≡ OutOfMemory) ⊎ IsAmong kind faults
    → Gives (if is_right faults then wanted else None) (Err (refused_by kind))
refuses [] kind wanted (inl memory) = rw memory tt
refuses [] kind wanted (inr among) = absurd among
refuses (fault ∷ faults) kind wanted why = nothing (refused_by kind)
