-- what a reader knows of the pages that it was fed
use Rattle.std.specs.Prelude.{ℕ, Bool, false, if◌then◌else◌, List, [], ◌∷◌, Option, None, Some}
use Rattle.std.specs.List.{list_any}
use Rattle.qsg_num.specs.declared.ids.UnitName.{UnitName}
use Rattle.qsg_num.specs.declared.seats.StructNo.{StructNo}
use Rattle.qsg_num.specs.Ids.{same_unit}
use Rattle.qsg_logrec.specs.declared.record.LogRecord.{LogRecord}
use Rattle.qsg_logrec.specs.declared.record.LogRecord.TheVariants as r

-- a unit that is committed, and the structures that its commit named
pub record Commit : Type 0 where
  pub unit : UnitName
  pub structures : Option (List StructNo)

-- the record that is begun at the end of the last page, and the units that are committed, each once
pub record Fed : Type 0 where
  pub begun : Option (List ℕ)
  pub commits : List Commit

-- the commit that a record is
abbrev pub commit_of : LogRecord → Option Commit
commit_of (r.Put u message) = None
commit_of (r.Got u id s) = None
commit_of (r.Commit u) = Some (record { unit = u; structures = None })
commit_of (r.BackupStart u s top low) = None
commit_of (r.BackupEntry u mark message) = None
commit_of (r.BackupEnd u s count) = None
commit_of (r.CommitIn u set) = Some (record { unit = u; structures = Some set })

-- the later of two, where there is one
abbrev pub later : Option (List StructNo) → Option (List StructNo) → Option (List StructNo)
later old None = old
later old (Some set) = Some set

-- a unit that is there keeps its place, and takes the structures that are named
abbrev pub with_commit : List Commit → Commit → List Commit
with_commit [] c = c ∷ []
with_commit (d ∷ ds) c = if same_unit c.unit d.unit then record { unit = d.unit; structures = later d.structures c.structures } ∷ ds else d ∷ with_commit ds c

abbrev pub with_record : List Commit → LogRecord → List Commit
with_record cs entry = elim (commit_of entry) [ None ↦ cs | Some c ↦ with_commit cs c ]

abbrev pub with_records : List Commit → List LogRecord → List Commit
with_records cs [] = cs
with_records cs (entry ∷ entries) = with_records (with_record cs entry) entries

abbrev pub is_of : UnitName → Commit → Bool
is_of u c = same_unit u c.unit

abbrev pub is_committed : UnitName → List Commit → Bool
is_committed u cs = list_any (is_of u) cs

abbrev pub structures_of : UnitName → List Commit → Option (List StructNo)
structures_of u [] = None
structures_of u (c ∷ cs) = if same_unit u c.unit then c.structures else structures_of u cs

-- whether a record is a commit of this unit
abbrev pub commits_unit : UnitName → LogRecord → Bool
commits_unit u entry = elim (commit_of entry) [ None ↦ false | Some c ↦ same_unit u c.unit ]

-- the structures that a record names as those of this unit
abbrev pub names_of : UnitName → LogRecord → Option (List StructNo)
names_of u entry = elim (commit_of entry) [ None ↦ None | Some c ↦ if same_unit u c.unit then c.structures else None ]

-- the structures that the last CommitIn of this unit names
abbrev pub structures_told : UnitName → List LogRecord → Option (List StructNo)
structures_told u [] = None
structures_told u (entry ∷ entries) = later (names_of u entry) (structures_told u entries)
