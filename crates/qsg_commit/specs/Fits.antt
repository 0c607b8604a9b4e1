-- when a COMMIT or BACKOUT in progress fits the group
use Rattle.std.specs.Prelude.{ℕ, ◌^◌, ◌≡◌, ◌<◌, ◌≤◌, true, false, List, length, Some, Result, Ok, Err}
use Rattle.std.specs.List.{AllByRecursion}
use Rattle.qsg_num.specs.declared.seats.Member.{Member}
use Rattle.qsg_num.specs.declared.seats.TaskNo.{TaskNo}
use Rattle.qsg_num.specs.declared.ids.UnitName.{UnitName}
use Rattle.qsg_num.specs.Seats.{structure_number}
use Rattle.qsg_group.specs.declared.tasks.Claim.{Claim}
use Rattle.qsg_group.specs.declared.tasks.Task.{Task}
use Rattle.qsg_group.specs.Observers.{is_hardening}
use Rattle.qsg_requests.specs.declared.replies.Turn.{Turn}
use Rattle.qsg_requests.specs.declared.replies.Turn.TheVariants.{More, Ended, Waits}
use Rattle.qsg_manager.specs.Storage.{manager_in, task_at}
use Rattle.qsg_logs.specs.Kept.{log_in}
use Rattle.qsg_logs.specs.Held.{is_open, AreHeld}
use Rattle.qsg_parts.specs.Owned.{Owned, HasMember}
use Rattle.qsg_commit.specs.declared.phases.Phase.{Phase}
use Rattle.qsg_commit.specs.declared.phases.Phase.TheVariants.{Latch, Pages, Settle, Publish, GiveUp, Undo}
use Rattle.qsg_commit.specs.declared.phases.StepError.{StepError}

-- the claims are on structures of the group, of which there are so many
abbrev pub AreWithin : ℕ → List Claim → Type 0
AreWithin n claims = AllByRecursion (λ (c : Claim). structure_number c.connection.structure ≤ n) claims

-- what holds of a member's tasks at any time, besides the laws of the machine
pub record IsServing (m : Member) (p : Owned) : Type 0 where
  pub member : HasMember m p
  pub five : length (manager_in m p.managers).tasks ≡ 5
  -- what is reserved of its log is what its open units need
  pub held : AreHeld (λ t. task_at m t p.managers) (log_in m p.logs)
  -- a unit whose run is being written has a slot of the history
  pub slots : (t : TaskNo) → is_hardening (task_at m t p.managers).stage ≡ true → 0 < p.history.room
  pub few : (t : TaskNo) → length (task_at m t p.managers).ops < 2 ^ 32
  pub within : (t : TaskNo) → AreWithin (length p.structures) (task_at m t p.managers).claims
  -- the name that a task holds is of its member
  pub own : (t : TaskNo) (u : UnitName) → (task_at m t p.managers).unit ≡ Some u → u.member ≡ m

-- the task holds this unit, whose run is being written
pub record IsWriting (m : Member) (u : UnitName) (task : Task) : Type 0 where
  pub own : u.member ≡ m
  pub holds : task.unit ≡ Some u
  pub hardens : is_hardening task.stage ≡ true

-- the task holds this unit, of which only the marks are left
pub record IsEnding (m : Member) (u : UnitName) (task : Task) : Type 0 where
  pub own : u.member ≡ m
  pub holds : task.unit ≡ Some u
  pub closed : is_open task.stage ≡ false
  pub settling : is_hardening task.stage ≡ false

abbrev pub FitsAt : Member → Task → Phase → Type 0
FitsAt m task Latch = is_open task.stage ≡ true
FitsAt m task (Pages u count) = IsWriting m u task
FitsAt m task (Settle u count) = IsEnding m u task
FitsAt m task (Publish u count) = IsEnding m u task
FitsAt m task GiveUp = is_open task.stage ≡ true
FitsAt m task (Undo u count) = IsEnding m u task

-- a request that hasn't ended still fits
abbrev pub FitsAfter : Member → Task → Result Turn StepError → Phase → Type 0
FitsAfter m task (Ok More) phase = FitsAt m task phase
FitsAfter m task (Ok (Ended reply)) phase = Unit {0}
FitsAfter m task (Ok (Waits cause)) phase = FitsAt m task phase
FitsAfter m task (Err e) phase = FitsAt m task phase

-- what holds after a step
pub record Stepped (m : Member) (t : TaskNo) (result : Result Turn StepError) (phase : Phase) (p : Owned) : Type 0 where
  pub serving : IsServing m p
  pub fits : FitsAfter m (task_at m t p.managers) result phase
