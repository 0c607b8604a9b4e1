-- the records of a unit's run, and what records tell of units
use Rattle.std.specs.Prelude.{◌≡◌, ℕ, Bool, true, false, not, if◌then◌else◌, List, [], ◌∷◌, ◌++◌, map, Option, None, Some}
use Rattle.std.specs.List.{list_any, list_all, cons_option}
use Rattle.qsg_num.specs.declared.ids.UnitName.{UnitName}
use Rattle.qsg_num.specs.declared.seats.StructNo.{StructNo}
use Rattle.qsg_num.specs.Ids.{same_unit}
use Rattle.qsg_model.specs.declared.history.Op.{Op}
use Rattle.qsg_model.specs.declared.history.Op.TheVariants.{Put, Got}
use Rattle.qsg_logrec.specs.declared.record.LogRecord.{LogRecord}
use Rattle.qsg_logrec.specs.declared.record.LogRecord.TheVariants as r
use Rattle.qsg_logrec.specs.Cutting.{cut_bodies}
use Rattle.qsg_logread.specs.Records.{texts_of}
use Rattle.qsg_logread.specs.Fed.{commit_of}
use Rattle.qsg_group.specs.Group.{Run}

-- the record of an operation of a unit
abbrev pub op_record : UnitName → StructNo × Op → LogRecord
op_record u (s, Put m) = r.Put u m
op_record u (s, Got id) = r.Got u id s

abbrev pub op_records : UnitName → List (StructNo × Op) → List LogRecord
op_records u told = map (op_record u) told

-- the records of a unit's run: those of its persistent operations, in order, and its commit in these structures
abbrev pub run_records : UnitName → List (StructNo × Op) → List StructNo → List LogRecord
run_records u told structures = op_records u told ++ r.CommitIn u structures ∷ []

-- the pages of its run
abbrev pub run_pages : UnitName → List (StructNo × Op) → List StructNo → List (List ℕ)
run_pages u told structures = cut_bodies (texts_of (run_records u told structures))

-- ---- what records tell

-- the unit that a record commits
abbrev pub committed_by : LogRecord → Option UnitName
committed_by entry = elim (commit_of entry) [ None ↦ None | Some c ↦ Some c.unit ]

-- the units whose commits stand in records, in order
abbrev pub commits : List LogRecord → List UnitName
commits [] = []
commits (entry ∷ entries) = cons_option (committed_by entry) (commits entries)

-- whether a record is of an operation of a unit
abbrev pub is_op_of : UnitName → LogRecord → Bool
is_op_of u (r.Put v m) = same_unit u v
is_op_of u (r.Got v id s) = same_unit u v
is_op_of u (r.Commit v) = false
is_op_of u (r.BackupStart v s top low) = false
is_op_of u (r.BackupEntry v mark m) = false
is_op_of u (r.BackupEnd v s count) = false
is_op_of u (r.CommitIn v structures) = false

-- what records tell of a unit: those of its operations, in order
abbrev pub told_of : UnitName → List LogRecord → List LogRecord
told_of u [] = []
told_of u (entry ∷ entries) = if is_op_of u entry then entry ∷ told_of u entries else told_of u entries

abbrev pub with_told : List LogRecord → UnitName → UnitName × List LogRecord
with_told records u = (u, told_of u records)

-- the units that records commit, in order, and what is told of each
abbrev pub told_in : List LogRecord → List (UnitName × List LogRecord)
told_in records = map (with_told records) (commits records)

-- a run's unit, and the records of its operations
abbrev pub told_by_run : Run → UnitName × List LogRecord
told_by_run run = (run.unit, op_records run.unit run.told)

-- ---- records besides those of runs

abbrev pub is_named : UnitName → List UnitName → Bool
is_named u units = list_any (same_unit u) units

-- it commits no unit, and is of an operation of these units if of any
abbrev pub is_beside : List UnitName → LogRecord → Bool
is_beside gone (r.Put u m) = is_named u gone
is_beside gone (r.Got u id s) = is_named u gone
is_beside gone (r.Commit u) = false
is_beside gone (r.BackupStart u s top low) = true
is_beside gone (r.BackupEntry u mark m) = true
is_beside gone (r.BackupEnd u s count) = true
is_beside gone (r.CommitIn u structures) = false

-- The records are those of the runs, each run's together, and between them others that commit no unit and are of
-- operations of units in `gone` if of any.
abbrev pub AreOf : List UnitName → List Run → List LogRecord → Type 0
AreOf gone [] records = list_all (is_beside gone) records ≡ true
AreOf gone (run ∷ runs) records =
    (others : List LogRecord) × (structures : List StructNo) × (more : List LogRecord)
    × (records ≡ others ++ (run_records run.unit run.told structures ++ more))
    × (list_all (is_beside gone) others ≡ true)
    × AreOf gone runs more

-- the units of the runs differ from each other and from those that are gone
abbrev pub AreApart : List UnitName → List Run → Type 0
AreApart gone [] = Unit {0}
AreApart gone (run ∷ runs) = (is_named run.unit gone ≡ false) × (list_all (λ other. not (same_unit run.unit other.unit)) runs ≡ true) × AreApart gone runs
