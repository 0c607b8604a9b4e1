-- the commits of a table
use Rattle.std.specs.Prelude.{List, map, Option}
use Rattle.qsg_num.specs.declared.seats.StructNo.{StructNo}
use Rattle.qsg_logread.specs.declared.commits.UnitKey.{UnitKey}
use Rattle.qsg_logread.specs.Fed.{Commit}

abbrev pub commit_in : UnitKey × Option (List StructNo) → Commit
commit_in e = record { unit = e.0.unit; structures = e.1 }

abbrev pub commits_in : List (UnitKey × Option (List StructNo)) → List Commit
commits_in es = map commit_in es
