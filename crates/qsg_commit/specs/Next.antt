-- what each step of a COMMIT or BACKOUT does, exactly
use Rattle.std.specs.Prelude.{ℕ, ◌≡◌, Bool, Option, Some, None, Result, Ok, Err, if◌then◌else◌}
use Rattle.qsg_num.specs.declared.seats.Member.{Member}
use Rattle.qsg_num.specs.declared.seats.TaskNo.{TaskNo}
use Rattle.qsg_num.specs.declared.ids.UnitName.{UnitName}
use Rattle.qsg_requests.specs.declared.replies.Reply.TheVariants.{Unit as UnitEnded}
use Rattle.qsg_requests.specs.declared.replies.Cause.TheVariants.{LogBusy}
use Rattle.qsg_requests.specs.declared.replies.Turn.{Turn}
use Rattle.qsg_requests.specs.declared.replies.Turn.TheVariants.{More, Ended, Waits}
use Rattle.qsg_manager.specs.Storage.{task_at}
use Rattle.qsg_parts.specs.Owned.{Owned}
use Rattle.qsg_commit.specs.declared.phases.Phase.{Phase}
use Rattle.qsg_commit.specs.declared.phases.Phase.TheVariants.{Latch, Pages, Settle, Publish, GiveUp, Undo}
use Rattle.qsg_commit.specs.declared.phases.StepError.{StepError}
use Rattle.qsg_commit.specs.declared.phases.StepError.TheVariants.{NoMemory, LogFailed}
use Rattle.qsg_commit.specs.declared.phases.Taken.{Taken}
use Rattle.qsg_commit.specs.declared.phases.Taken.TheVariants.{Nothing, Busy, Begun}
use Rattle.qsg_commit.specs.Works.{Work}
use Rattle.qsg_commit.specs.Pending.{pending}
use Rattle.qsg_commit.specs.Committing.{take_answer, IsLatched, IsSameButRoom, IsPageStep, IsFailedPage}
use Rattle.qsg_commit.specs.Ending.{settled, is_settled, published, given_up, undone}

-- how a step ended, how far the request has come, and the parts of the group
pub record Next : Type 0 where
  pub turn : Turn
  pub phase : Phase
  pub parts : Owned

-- the answer of a unit of so many operations, and the answer where there is none
abbrev pub unit_ended : UnitName → ℕ → Turn
unit_ended u count = Ended (UnitEnded (Some u) count)

abbrev pub nothing_ended : Turn
nothing_ended = Ended (UnitEnded None 0)

-- ---- COMMIT

abbrev pub LatchStep : Member → TaskNo → Taken → Owned → Turn → Phase → Owned → Type 0
LatchStep m t Nothing p turn phase q = (turn ≡ nothing_ended) × (phase ≡ Latch) × (q ≡ p)
LatchStep m t (Busy busy) p turn phase q = (turn ≡ Waits (LogBusy busy)) × (phase ≡ Latch) × (q ≡ p)
LatchStep m t (Begun u count) p turn phase q = (turn ≡ More) × (phase ≡ Pages u count) × IsLatched m t u p q

abbrev pub after_page : Bool → UnitName → ℕ → Phase
after_page done u count = if done then Settle u count else Pages u count

abbrev pub PageStep : TaskNo → UnitName → ℕ → Owned → Turn → Phase → Owned → Type 0
PageStep t u count p turn phase q = (done : Bool) × (turn ≡ More) × (phase ≡ after_page done u count) × IsPageStep u t done p q

abbrev pub after_settle : TaskNo → UnitName → ℕ → Owned → Next
after_settle t u count p = record { turn = More; phase = if is_settled u t (settled u t p) then Publish u count else Settle u count; parts = settled u t p }

abbrev pub after_publish : TaskNo → UnitName → ℕ → Owned → Next
after_publish t u count p = record { turn = unit_ended u count; phase = Publish u count; parts = published u t p }

-- ---- BACKOUT

-- at a phase, a unit that is given up loses its next mark; the last one ends it
abbrev pub after_undo : TaskNo → UnitName → ℕ → Phase → Owned → Next
after_undo t u count at p =
    record { turn = if is_settled u t (settled u t p) then unit_ended u count else More; phase = if is_settled u t (settled u t p) then at else Undo u count; parts = undone u t p }

abbrev pub after_give_up : TaskNo → Option (UnitName × ℕ) → Owned → Next
after_give_up t None p = record { turn = nothing_ended; phase = GiveUp; parts = p }
after_give_up t (Some (u, count)) p = after_undo t u count GiveUp (given_up u t p)

-- ---- a step, by the phase and by how it ended

-- Only the first step of a COMMIT takes memory, and only a page of the log may fail.
abbrev pub NextAt : Member → TaskNo → Phase → Owned → Result Turn StepError → Phase → Owned → Type 0
NextAt m t Latch p (Ok turn) phase q = LatchStep m t (take_answer m t p) p turn phase q
NextAt m t Latch p (Err NoMemory) phase q = (phase ≡ Latch) × IsSameButRoom p q
NextAt m t Latch p (Err LogFailed) phase q = ⊥
NextAt m t (Pages u count) p (Ok turn) phase q = PageStep t u count p turn phase q
NextAt m t (Pages u count) p (Err NoMemory) phase q = ⊥
NextAt m t (Pages u count) p (Err LogFailed) phase q = (phase ≡ Pages u count) × IsFailedPage u.member p q
NextAt m t (Settle u count) p (Ok turn) phase q = record { turn = turn; phase = phase; parts = q } ≡ after_settle t u count p
NextAt m t (Settle u count) p (Err e) phase q = ⊥
NextAt m t (Publish u count) p (Ok turn) phase q = record { turn = turn; phase = phase; parts = q } ≡ after_publish t u count p
NextAt m t (Publish u count) p (Err e) phase q = ⊥
NextAt m t GiveUp p (Ok turn) phase q = record { turn = turn; phase = phase; parts = q } ≡ after_give_up t (pending (task_at m t p.managers)) p
NextAt m t GiveUp p (Err e) phase q = ⊥
NextAt m t (Undo u count) p (Ok turn) phase q = record { turn = turn; phase = phase; parts = q } ≡ after_undo t u count (Undo u count) p
NextAt m t (Undo u count) p (Err e) phase q = ⊥

-- the member and the task stay those of the work
pub record NextCommit (old : Work) (p : Owned) (result : Result Turn StepError) (new : Work) (q : Owned) : Type 0 where
  pub member : new.member ≡ old.member
  pub task : new.task ≡ old.task
  pub next : NextAt old.member old.task old.phase p result new.phase q
