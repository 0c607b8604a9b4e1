-- what a step needs of the group
use Rattle.std.specs.Prelude.{◌^◌, ◌≡◌, ◌<◌, ◌≤◌, false, length, None, IsSome, IfSome}
use Rattle.qsg_num.specs.declared.seats.Member.{Member}
use Rattle.qsg_num.specs.declared.seats.TaskNo.{TaskNo}
use Rattle.qsg_num.specs.declared.ids.UnitName.{UnitName}
use Rattle.qsg_num.specs.Seats.{structure_number}
use Rattle.qsg_logpage.specs.Reserved.{pages_for}
use Rattle.qsg_logpage.specs.Log.{has_run}
use Rattle.qsg_manager.specs.Latches.{latch_of}
use Rattle.qsg_manager.specs.Settles.{next_claim}
use Rattle.qsg_manager.specs.Storage.{manager_in, task_at}
use Rattle.qsg_logs.specs.Kept.{log_in}
use Rattle.qsg_parts.specs.Owned.{Owned, HasMember}
use Rattle.qsg_commit.specs.declared.phases.Phase.{Phase}
use Rattle.qsg_commit.specs.declared.phases.Phase.TheVariants.{Latch, Pages, Settle, Publish, GiveUp, Undo}
use Rattle.qsg_commit.specs.Works.{Work}
use Rattle.qsg_commit.specs.Pending.{pending}
use Rattle.qsg_commit.specs.Committing.{run_of}
use Rattle.qsg_commit.specs.Ending.{given_up}

-- where no task has the latch, no run is in hand, and the task's unit has its run's pages reserved
pub record MayLatch (m : Member) (t : TaskNo) (p : Owned) : Type 0 where
  pub member : HasMember m p
  pub few : length (task_at m t p.managers).ops < 2 ^ 32
  pub idle : latch_of (manager_in m p.managers).tasks ≡ None → (log_in m p.logs).writer.hand ≡ None
  pub fits : IfSome (pending (task_at m t p.managers)) (λ unit. length (run_of unit.0 (task_at m t p.managers)) ≤ pages_for unit.0 (log_in m p.logs).writer.reserved)

-- a run is in hand, and the history has a slot
pub record MayWritePage (u : UnitName) (p : Owned) : Type 0 where
  pub member : HasMember u.member p
  pub in_hand : IsSome (log_in u.member p.logs).writer.hand
  pub room : 0 < p.history.room

-- the structure of the mark that comes off next is one of the group's
pub record MaySettle (u : UnitName) (t : TaskNo) (p : Owned) : Type 0 where
  pub member : HasMember u.member p
  pub structure : IfSome (next_claim (task_at u.member t p.managers)) (λ c. structure_number c.connection.structure ≤ length p.structures)

-- the unit's run isn't in hand
pub record MayEnd (u : UnitName) (p : Owned) : Type 0 where
  pub member : HasMember u.member p
  pub idle : has_run u (log_in u.member p.logs).writer ≡ false

pub record MayGiveUp (u : UnitName) (t : TaskNo) (p : Owned) : Type 0 where
  pub mark : MaySettle u t (given_up u t p)
  pub end : MayEnd u p

-- a unit that the task has to end may be given up
pub record MayBackOut (m : Member) (t : TaskNo) (p : Owned) : Type 0 where
  pub member : HasMember m p
  pub few : length (task_at m t p.managers).ops < 2 ^ 32
  pub gives_up : IfSome (pending (task_at m t p.managers)) (λ unit. MayGiveUp unit.0 t p)

abbrev pub MayStepAt : Member → TaskNo → Owned → Phase → Type 0
MayStepAt m t p Latch = MayLatch m t p
MayStepAt m t p (Pages u count) = MayWritePage u p
MayStepAt m t p (Settle u count) = MaySettle u t p
MayStepAt m t p (Publish u count) = MayEnd u p
MayStepAt m t p GiveUp = MayBackOut m t p
MayStepAt m t p (Undo u count) = MaySettle u t p × MayEnd u p

abbrev pub MayStep : Work → Owned → Type 0
MayStep work p = MayStepAt work.member work.task p work.phase
