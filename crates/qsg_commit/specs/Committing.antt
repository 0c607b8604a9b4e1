-- what the steps of a COMMIT leave, up to where its unit is in the history
use Rattle.std.specs.Prelude.{ℕ, ◌+◌, ◌≡◌, ◌<◌, ◌≤◌, Bool, true, false, List, [], ◌∷◌, ◌++◌, length, Option, Some, None}
use Rattle.qsg_num.specs.declared.seats.Member.{Member}
use Rattle.qsg_num.specs.declared.seats.TaskNo.{TaskNo}
use Rattle.qsg_num.specs.declared.ids.UnitName.{UnitName}
use Rattle.qsg_num.specs.Faults.{Rose}
use Rattle.qsg_disk.specs.Byte.{Byte}
use Rattle.qsg_model.specs.declared.history.Item.TheVariants.{Unit as UnitOf}
use Rattle.qsg_logpage.specs.Page.{page_at}
use Rattle.qsg_logpage.specs.Log.{IsTied, advanced, made_safe, pages_written}
use Rattle.qsg_group.specs.declared.tasks.Stage.TheVariants.{Hardening}
use Rattle.qsg_group.specs.declared.tasks.Task.{Task}
use Rattle.qsg_group.specs.Observers.{logged_ops}
use Rattle.qsg_unitlog.specs.Sets.{structures_of}
use Rattle.qsg_logrec.specs.declared.record.LogRecord.{LogRecord}
use Rattle.qsg_logread.specs.Records.{AreRecords}
use Rattle.qsg_unitlog.specs.Units.{run_records, run_pages}
use Rattle.qsg_manager.specs.Latches.{latch_of}
use Rattle.qsg_manager.specs.Storage.{manager_in, task_at}
use Rattle.qsg_manager.specs.Units.{with_stage, with_hardened}
use Rattle.qsg_logs.specs.Kept.{KeptLog, log_in, with_log, with_begun}
use Rattle.qsg_parts.specs.Owned.{Owned}
use Rattle.qsg_commit.specs.declared.phases.Taken.{Taken}
use Rattle.qsg_commit.specs.declared.phases.Taken.TheVariants.{Nothing, Busy, Begun}
use Rattle.qsg_commit.specs.Pending.{pending}

-- ---- the latch

-- the records of a unit's run: those of its persistent operations, and its commit in the structures of all
abbrev pub records_of : UnitName → Task → List LogRecord
records_of u task = run_records u (logged_ops task.ops task.claims) (structures_of task.ops)

-- the pages of its run
abbrev pub run_of : UnitName → Task → List (List ℕ)
run_of u task = run_pages u (logged_ops task.ops task.claims) (structures_of task.ops)

-- a unit has the latch where no task of its member has it
abbrev pub taken_by : UnitName × ℕ → Option TaskNo → Taken
taken_by unit (Some busy) = Busy busy
taken_by (u, count) None = Begun u count

abbrev pub take_of : Option (UnitName × ℕ) → Option TaskNo → Taken
take_of None latch = Nothing
take_of (Some unit) latch = taken_by unit latch

abbrev pub take_answer : Member → TaskNo → Owned → Taken
take_answer m t p = take_of (pending (task_at m t p.managers)) (latch_of (manager_in m p.managers).tasks)

-- the unit's run, from the next page of its member's log on, is in hand
abbrev pub latched : Member → TaskNo → UnitName → Owned → Owned
latched m t u p = record p {
  managers = with_stage m t (Hardening (record { number = (log_in m p.logs).writer.next })) p.managers;
  logs = with_log m (with_begun u (run_of u (task_at m t p.managers)) (log_in m p.logs)) p.logs;
}

-- the same parts, with so much room in the history
abbrev pub with_room : ℕ → Owned → Owned
with_room room p = record p { history = record { items = p.history.items; room = room } }

-- nothing changed but that the history may have more room
pub record IsSameButRoom (old new : Owned) : Type 0 where
  pub same : new ≡ with_room new.history.room old
  pub room : old.history.room ≤ new.history.room

-- The run in hand is that of the unit, and has a page. The history has a slot for the unit of each member.
pub record IsLatched (m : Member) (t : TaskNo) (u : UnitName) (old new : Owned) : Type 0 where
  pub parts : new ≡ with_room new.history.room (latched m t u old)
  pub room : 8 ≤ new.history.room
  pub more : old.history.room ≤ new.history.room
  pub some : 0 < length (run_of u (task_at m t old.managers))
  pub records : AreRecords (records_of u (task_at m t old.managers))
  pub tied : (keep : ℕ) (bytes : List Byte) → IsTied keep (log_in m old.logs).writer bytes → IsTied keep (log_in m new.logs).writer bytes

abbrev pub IsTaken : Member → TaskNo → Taken → Owned → Owned → Type 0
IsTaken m t Nothing old new = new ≡ old
IsTaken m t (Busy busy) old new = new ≡ old
IsTaken m t (Begun u count) old new = IsLatched m t u old new

-- ---- the pages

-- What a step of a writer did to its device: over one that tells its bytes, the pages that are written are those that
-- were, and the one that the step makes safe.
pub record IsWritten (old new : KeptLog) : Type 0 where
  pub tells : new.tells ≡ old.tells
  pub extent : new.extent ≡ old.extent
  pub fillings : new.fillings ≡ old.fillings
  pub writer : new.writer ≡ advanced old.writer
  pub tied : old.tells ≡ true → (keep : ℕ) → IsTied keep old.writer old.bytes → IsTied keep new.writer new.bytes
  pub pages : old.tells ≡ true → (keep : ℕ) → IsTied keep old.writer old.bytes → pages_written keep new.writer new.bytes ≡ pages_written keep old.writer old.bytes ++ made_safe old.writer

-- the unit is in the history, and only its marks are left of it
abbrev pub hardened : TaskNo → UnitName → Owned → Owned
hardened t u p = record p {
  managers = with_hardened u.member t p.managers;
  history = record p.history { items = p.history.items ++ UnitOf u (task_at u.member t p.managers).ops ∷ [] };
}

-- the log of a member is another one
abbrev pub at_log : Member → KeptLog → Owned → Owned
at_log m log p = record p { logs = with_log m log p.logs }

pub record IsHardened (u : UnitName) (t : TaskNo) (old new : Owned) : Type 0 where
  pub parts : new ≡ with_room new.history.room (hardened t u (at_log u.member (log_in u.member new.logs) old))
  pub room : old.history.room ≤ new.history.room + 1

-- a page step, by whether it was the last of the run
abbrev pub IsPageMade : UnitName → TaskNo → Bool → Owned → Owned → Type 0
IsPageMade u t false old new = new ≡ at_log u.member (log_in u.member new.logs) old
IsPageMade u t true old new = IsHardened u t old new

abbrev pub is_none : {A : Type 0} → Option A → Bool
is_none None = true
is_none (Some a) = false

pub record IsPageStep (u : UnitName) (t : TaskNo) (done : Bool) (old new : Owned) : Type 0 where
  -- the step was the last exactly where no run is in hand any more
  pub last : done ≡ is_none (log_in u.member new.logs).writer.hand
  pub written : IsWritten (log_in u.member old.logs) (log_in u.member new.logs)
  pub made : IsPageMade u t done old new

-- A step of the writer that failed, since the device of the member's log did: nothing changed but that device.
pub record IsFailedPage (m : Member) (old new : Owned) : Type 0 where
  pub cause : Rose (log_in m old.logs).faults (log_in m new.logs).faults
  pub parts : new ≡ at_log m (log_in m new.logs) old
  pub tells : (log_in m new.logs).tells ≡ (log_in m old.logs).tells
  pub extent : (log_in m new.logs).extent ≡ (log_in m old.logs).extent
  pub fillings : (log_in m new.logs).fillings ≡ (log_in m old.logs).fillings
  pub writer : (log_in m new.logs).writer ≡ (log_in m old.logs).writer
  pub tied : (log_in m old.logs).tells ≡ true → (keep : ℕ) → IsTied keep (log_in m old.logs).writer (log_in m old.logs).bytes → IsTied keep (log_in m new.logs).writer (log_in m new.logs).bytes
  pub earlier : (log_in m old.logs).tells ≡ true → (keep : ℕ) → IsTied keep (log_in m old.logs).writer (log_in m old.logs).bytes
      → (k : ℕ) → keep ≤ k → k < (log_in m old.logs).writer.next
      → page_at (log_in m new.logs).bytes (log_in m old.logs).writer.size k ≡ page_at (log_in m old.logs).bytes (log_in m old.logs).writer.size k
