-- what members keep of their logs, by the numbers of members and tasks
use Rattle.std.specs.Prelude.{ℕ, ◌-◌, ◌*◌, ◌≡◌, ◌≤◌, Bool, false, List, [], Option, Some, None, length, slice_index_or, slice_set, replicate, if◌then◌else◌}
use Rattle.std.specs.List.{AllByRecursion}
use Rattle.qsg_num.specs.declared.seats.Member.{Member}
use Rattle.qsg_num.specs.declared.seats.TaskNo.{TaskNo}
use Rattle.qsg_num.specs.declared.ids.UnitName.{UnitName}
use Rattle.qsg_num.specs.Seats.{member_number, task_number}
use Rattle.qsg_disk.specs.Byte.{Byte}
use Rattle.qsg_logpage.specs.Log.{LogState}
use Rattle.qsg_logneed.specs.declared.counting.Filling.{Filling}
use Rattle.qsg_logneed.specs.Filled.{no_pages, with_record}
use Rattle.qsg_logs.specs.Writers.{reserved, released, begun, IsWithin}

-- what a member keeps of its log
pub record KeptLog : Type 0 where
  -- its device: whether it tells its bytes, these, how often it has failed, and how many bytes it has
  pub tells : Bool
  pub bytes : List Byte
  pub faults : ℕ
  pub extent : ℕ
  pub writer : LogState
  -- of each task, how far the records of its unit fill their pages
  pub fillings : List Filling

-- what stands at a number that no member has: a log without a page
abbrev pub no_log : KeptLog
no_log = record { tells = false; bytes = []; faults = 0; extent = 0; writer = record { size = 0; next = 0; reserved = []; hand = None }; fillings = [] }

abbrev pub log_in : Member → List KeptLog → KeptLog
log_in m logs = slice_index_or logs (member_number m - 1) no_log

abbrev pub with_log : Member → KeptLog → List KeptLog → List KeptLog
with_log m log logs = slice_set logs (member_number m - 1) log

abbrev pub no_fillings : List Filling
no_fillings = replicate 5 no_pages

-- ---- how far the records of a task's unit fill their pages

abbrev pub filling_of : TaskNo → KeptLog → Filling
filling_of t log = slice_index_or log.fillings (task_number t) no_pages

abbrev pub with_filling : TaskNo → Filling → KeptLog → KeptLog
with_filling t filling log = record log { fillings = slice_set log.fillings (task_number t) filling }

-- with the record of one operation more, where it has one
abbrev pub with_operation : Option ℕ → Filling → Filling
with_operation None filling = filling
with_operation (Some bytes) filling = with_record filling bytes

-- the pages with the record of a commit, which has 11 bytes
abbrev pub with_commit : Filling → ℕ
with_commit filling = (with_record filling 11).pages

-- the pages that the unit of a task needs with one operation more
abbrev pub need_of : TaskNo → Option ℕ → KeptLog → ℕ
need_of t operation log = with_commit (with_operation operation (filling_of t log))

-- ---- what calls make of a log

abbrev pub with_writer : LogState → KeptLog → KeptLog
with_writer writer log = record log { writer = writer }

-- so many pages are reserved for a unit
abbrev pub with_reserved : UnitName → ℕ → KeptLog → KeptLog
with_reserved unit pages log = with_writer (reserved unit pages log.writer) log

-- a task's unit has one operation more
abbrev pub with_record_of : TaskNo → Option ℕ → KeptLog → KeptLog
with_record_of t operation log = with_filling t (with_operation operation (filling_of t log)) log

-- what is reserved for a task's unit is what its records and its commit need, or nothing where it has no operation
abbrev pub fallen_back : TaskNo → UnitName → Bool → KeptLog → KeptLog
fallen_back t unit has_operations log = if has_operations then with_reserved unit (need_of t None log) log else with_writer (released unit log.writer) log

-- a unit's run is taken in hand
abbrev pub with_begun : UnitName → List (List ℕ) → KeptLog → KeptLog
with_begun unit pages log = with_writer (begun unit pages log.writer) log

-- a task's unit has ended
abbrev pub with_ended : TaskNo → UnitName → KeptLog → KeptLog
with_ended t unit log = with_filling t no_pages (with_writer (released unit log.writer) log)

-- ---- what each log keeps

-- Its device has 4,096 bytes for each page, and no unit has more pages of records than the log has.
pub record IsKept (extent : ℕ) (writer : LogState) (fillings : List Filling) : Type 0 where
  pub extent_is : extent ≡ 4096 * writer.size
  pub five : length fillings ≡ 5
  pub fillings_fit : AllByRecursion (λ (f : Filling). f.pages ≤ writer.size) fillings
  pub within : IsWithin writer
