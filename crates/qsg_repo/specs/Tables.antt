-- the repository as tables, and what stands in them
use Rattle.std.specs.Prelude.{ℕ, ◌-◌, Bool, false, nat_le, ◌&&◌, List, [], Option, Some, None, slice_index_or, slice_set, replicate}
use Rattle.qsg_num.specs.declared.seats.Member.{Member}
use Rattle.qsg_num.specs.declared.seats.StructNo.{StructNo}
use Rattle.qsg_num.specs.declared.seats.TaskNo.{TaskNo}
use Rattle.qsg_num.specs.declared.ids.PageNo.{PageNo}
use Rattle.qsg_num.specs.Seats.{member_number, structure_number, task_number}
use Rattle.qsg_repo.specs.declared.notes.Note.{Note}
use Rattle.qsg_repo.specs.declared.lives.Life.{Life}
use Rattle.qsg_repo.specs.declared.statuses.Smds.{Smds}
use Rattle.qsg_repo.specs.declared.statuses.DataSets.{DataSets}
use Rattle.qsg_repo.specs.declared.needs.Holds.{Holds}
use Rattle.qsg_repo.specs.Statuses.{new_smds}

-- members and structures are counted from 1, tasks from 0
pub record Repository : Type 0 where
  -- how many members and structures the group has
  pub members : ℕ
  pub structures : ℕ
  -- of each structure, whether its messages may be persistent
  pub recover : List Bool
  -- the incarnations that may be given
  pub starts : ℕ
  -- of each member, the page of its log from which its failed incarnations are resolved
  pub lows : List PageNo
  -- of each structure, its last backup
  pub notes : List (Option Note)
  -- the incarnations given, in the order in which they were
  pub lives : List Life
  -- of each member and task, the low pages that its BACKUP or RECOVER needs
  pub holds : List Holds
  -- of each structure and member, its data set
  pub smds : List DataSets

abbrev pub member_place : Member → ℕ
member_place m = member_number m - 1

abbrev pub structure_place : StructNo → ℕ
structure_place s = structure_number s - 1

abbrev pub page_at : ℕ → PageNo
page_at n = record { number = n }

-- a member has five tasks, and a data set for each structure
abbrev pub no_holds : Holds
no_holds = record { tasks = replicate 5 None }

abbrev pub new_data_sets : DataSets
new_data_sets = record { members = replicate 8 new_smds }

-- the page of a member in a list of low pages
abbrev pub low_in : Member → List PageNo → PageNo
low_in m lows = slice_index_or lows (member_place m) (page_at 0)

abbrev pub low_of : Member → Repository → PageNo
low_of m repo = low_in m repo.lows

abbrev pub note_at : StructNo → Repository → Option Note
note_at s repo = slice_index_or repo.notes (structure_place s) None

abbrev pub tasks_of : Member → List Holds → List (Option (List PageNo))
tasks_of m holds = (slice_index_or holds (member_place m) (record { tasks = [] })).tasks

abbrev pub holds_of : Member → Repository → List (Option (List PageNo))
holds_of m repo = tasks_of m repo.holds

abbrev pub hold_at : Member → TaskNo → Repository → Option (List PageNo)
hold_at m t repo = slice_index_or (holds_of m repo) (task_number t) None

abbrev pub smds_of : StructNo → Repository → List Smds
smds_of s repo = (slice_index_or repo.smds (structure_place s) (record { members = [] })).members

abbrev pub smds_at : Member → StructNo → Repository → Smds
smds_at m s repo = slice_index_or (smds_of s repo) (member_place m) new_smds

-- the group has this structure, and its messages may be persistent
abbrev pub recovers : StructNo → Repository → Bool
recovers s repo = nat_le (structure_number s) repo.structures && slice_index_or repo.recover (structure_place s) false

abbrev pub with_low : Member → PageNo → Repository → Repository
with_low m page repo = record repo { lows = slice_set repo.lows (member_place m) page }

abbrev pub with_note : StructNo → Note → Repository → Repository
with_note s note repo = record repo { notes = slice_set repo.notes (structure_place s) (Some note) }

abbrev pub with_hold : Member → TaskNo → Option (List PageNo) → Repository → Repository
with_hold m t hold repo = record repo { holds = slice_set repo.holds (member_place m) (record { tasks = slice_set (holds_of m repo) (task_number t) hold }) }

abbrev pub without_holds : Member → Repository → Repository
without_holds m repo = record repo { holds = slice_set repo.holds (member_place m) no_holds }

abbrev pub with_data_sets : StructNo → List Smds → Repository → Repository
with_data_sets s row repo = record repo { smds = slice_set repo.smds (structure_place s) (record { members = row }) }

abbrev pub with_smds : Member → StructNo → Smds → Repository → Repository
with_smds m s to repo = with_data_sets s (slice_set (smds_of s repo) (member_place m) to) repo
