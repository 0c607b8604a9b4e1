-- what is unfinished behind some pieces of a page
use Rattle.std.specs.Prelude.{◌≡◌, ℕ, List, [], ◌++◌, Option, None, Some}
use Rattle.qsg_logrec.specs.declared.record.LogRecord.{LogRecord}
use Rattle.qsg_logread.specs.declared.joining.Rest.{Rest}
use Rattle.qsg_logread.specs.declared.joining.Rest.TheVariants.{Nothing, Longer, Begun}

-- an unfinished record with more bytes
abbrev pub gone_on : Option (List ℕ) → List ℕ → Option (List ℕ)
gone_on None more = None
gone_on (Some begun) more = Some (begun ++ more)

-- what is unfinished where this was before the page
abbrev pub unfinished : Option (List ℕ) → Rest → Option (List ℕ)
unfinished old Nothing = None
unfinished old (Longer more) = gone_on old more
unfinished old (Begun bytes) = Some bytes

-- where the record from before the page still goes on, none has ended
abbrev pub IsEarly : Rest → List LogRecord → Type 0
IsEarly Nothing records = Unit {0}
IsEarly (Longer more) records = records ≡ []
IsEarly (Begun bytes) records = Unit {0}
