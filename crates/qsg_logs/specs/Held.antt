-- What is reserved of a member's log, and for which units.
use Rattle.std.specs.Prelude.{ℕ, ◌≡◌, ◌<◌, ◌≤◌, Bool, true, false, if◌then◌else◌, List, [], ◌∷◌, ◌++◌, Option, Some, None, length, map}
use Rattle.std.specs.List.{AllByRecursion}
use Rattle.qsg_num.specs.declared.seats.TaskNo.{TaskNo}
use Rattle.qsg_num.specs.declared.ids.UnitName.{UnitName}
use Rattle.qsg_num.specs.Seats.{task_number}
use Rattle.qsg_num.specs.Ids.{same_unit}
use Rattle.qsg_model.specs.declared.history.Op.{Op}
use Rattle.qsg_num.specs.declared.seats.StructNo.{StructNo}
use Rattle.qsg_logpage.specs.declared.table.Reservation.{Reservation}
use Rattle.qsg_logpage.specs.Reserved.{pages_for}
use Rattle.qsg_logpage.specs.Log.{Hand}
use Rattle.qsg_logread.specs.Records.{texts_of}
use Rattle.qsg_logneed.specs.Filled.{filled}
use Rattle.qsg_group.specs.declared.tasks.Claim.{Claim}
use Rattle.qsg_group.specs.declared.tasks.Stage.{Stage}
use Rattle.qsg_group.specs.declared.tasks.Stage.TheVariants.{Open, Hardening, Committed, BackedOut}
use Rattle.qsg_group.specs.declared.tasks.Task.{Task}
use Rattle.qsg_group.specs.Observers.{is_hardening, logged_ops}
use Rattle.qsg_group.specs.Changes.{open_task}
use Rattle.qsg_logrec.specs.Spelling.{record_text}
use Rattle.qsg_unitlog.specs.Units.{op_record, op_records}
use Rattle.qsg_logs.specs.Kept.{KeptLog, filling_of, with_commit}

-- the unit may have further operations
abbrev pub is_open : Stage → Bool
is_open Open = true
is_open (Hardening first) = false
is_open (Committed first settled) = false
is_open (BackedOut settled) = false

-- the bytes of the records of a unit's operations
abbrev pub lengths_of : UnitName → List (StructNo × Op) → List Claim → List ℕ
lengths_of u ops claims = map length (texts_of (op_records u (logged_ops ops claims)))

-- the same of the unit that a task holds, if it holds one
abbrev pub lengths_held : Task → List ℕ
lengths_held task = elim task.unit [ None ↦ [] | Some u ↦ lengths_of u task.ops task.claims ]

-- a task holds that unit
abbrev pub HoldsUnit : (TaskNo → Task) → UnitName → TaskNo → Type 0
HoldsUnit tasks u t = (tasks t).unit ≡ Some u

-- a reservation is for the unit of a task
abbrev pub IsOwned : (TaskNo → Task) → Reservation → Type 0
IsOwned tasks r = (t : TaskNo) × HoldsUnit tasks r.unit t

-- the units of reservations differ
abbrev pub AreDifferent : List Reservation → Type 0
AreDifferent [] = Unit {0}
AreDifferent (r ∷ rs) = AllByRecursion (λ (x : Reservation). same_unit x.unit r.unit ≡ false) rs × AreDifferent rs

-- the run in hand is that of the one task in hardening
pub record IsHardening (tasks : TaskNo → Task) (hand : Hand) : Type 0 where
  pub task : TaskNo
  pub holds : HoldsUnit tasks hand.unit task
  pub hardens : is_hardening (tasks task).stage ≡ true
  pub only : (w : TaskNo) → is_hardening (tasks w).stage ≡ true → w ≡ task

abbrev pub IsHandOf : (TaskNo → Task) → Option Hand → Type 0
IsHandOf tasks None = (t : TaskNo) → is_hardening (tasks t).stage ≡ false
IsHandOf tasks (Some hand) = IsHardening tasks hand

-- Of a member's tasks and its log: what is reserved is for the units of tasks, and each open unit with an operation
-- has what its records and its commit need.
pub record AreHeld (tasks : TaskNo → Task) (log : KeptLog) : Type 0 where
  -- no two tasks hold one unit
  pub once : (u : UnitName) (t w : TaskNo) → HoldsUnit tasks u t → HoldsUnit tasks u w → t ≡ w
  pub differ : AreDifferent log.writer.reserved
  pub owned : AllByRecursion (IsOwned tasks) log.writer.reserved
  -- the records of an open unit fill their pages so far
  pub fillings : (t : TaskNo) → is_open (tasks t).stage ≡ true → filling_of t log ≡ filled (lengths_held (tasks t))
  pub covered : (t : TaskNo) (u : UnitName) (ops : List (StructNo × Op)) (claims : List Claim) → tasks t ≡ open_task u ops claims → 0 < length ops
      → with_commit (filling_of t log) ≤ pages_for u log.writer.reserved
  pub hand : IsHandOf tasks log.writer.hand

-- ---- changes of one task

-- a task has this, and the others are as they were
pub record Sets (t : TaskNo) (task : Task) (old new : TaskNo → Task) : Type 0 where
  pub here : new t ≡ task
  pub others : (w : TaskNo) → (task_number w ≡ task_number t → ⊥) → new w ≡ old w

-- a unit has this operation, with its claim, besides those that it had
pub record Adds (u : UnitName) (op : StructNo × Op) (claim : Claim) (old new : Task) : Type 0 where
  pub ops : List (StructNo × Op)
  pub claims : List Claim
  pub matched : length ops ≡ length claims
  pub old_is : old ≡ open_task u ops claims
  pub new_is : new ≡ open_task u (ops ++ op ∷ []) (claims ++ claim ∷ [])

-- the bytes of an operation's record, where its claim says that it is logged
abbrev pub logged_by : UnitName → StructNo × Op → Claim → Option ℕ
logged_by u op claim = if claim.persistent then Some (length (record_text (op_record u op))) else None

-- the task holds the same unit, and only its marks are left
pub record SettlesMarks (old new : Task) : Type 0 where
  pub same_unit : new.unit ≡ old.unit
  pub closed : is_open new.stage ≡ false
  pub settling : is_hardening new.stage ≡ false
