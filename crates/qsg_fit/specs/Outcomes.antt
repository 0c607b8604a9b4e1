-- how a step of a request leaves the group and the request
use Rattle.std.specs.Prelude.{ℕ, ◌+◌, ◌≡◌, ◌≤◌, true, List, length, Option, Some, None}
use Rattle.qsg_num.specs.declared.seats.Member.{Member}
use Rattle.qsg_num.specs.declared.seats.TaskNo.{TaskNo}
use Rattle.qsg_num.specs.declared.seats.StructNo.{StructNo}
use Rattle.qsg_num.specs.declared.ids.UnitName.{UnitName}
use Rattle.qsg_num.specs.Seats.{structure_number}
use Rattle.qsg_model.specs.declared.history.Op.{Op}
use Rattle.qsg_objects.specs.declared.registry.Queue.{Queue}
use Rattle.qsg_objects.specs.Registry.{Registry, queue_named}
use Rattle.qsg_requests.specs.declared.words.PutWords.{PutWords}
use Rattle.qsg_requests.specs.declared.replies.Turn.{Turn}
use Rattle.qsg_requests.specs.declared.replies.Turn.TheVariants.{More, Ended, Waits}
use Rattle.qsg_group.specs.declared.tasks.Claim.{Claim}
use Rattle.qsg_group.specs.declared.tasks.Task.{Task}
use Rattle.qsg_group.specs.Changes.{hardening_task, settling_task}
use Rattle.qsg_manager.specs.Settles.{next_claim}
use Rattle.qsg_manager.specs.Storage.{manager_in, task_at}
use Rattle.qsg_logs.specs.Held.{is_open}
use Rattle.qsg_parts.specs.Owned.{Owned, HasMember}
use Rattle.qsg_steady.specs.Actions.{IsLogKept}
use Rattle.qsg_steady.specs.Standing.{Stand, stand, SparesOthers}
use Rattle.qsg_steady.specs.Steady.{IsSteady}
use Rattle.qsg_commit.specs.declared.phases.Phase.{Phase as EndPhase}
use Rattle.qsg_commit.specs.declared.phases.Phase.TheVariants as end_phase
use Rattle.qsg_commit.specs.Next.{Next as NextEnd}
use Rattle.qsg_get.specs.declared.phases.Phase.{Phase as GetPhase}
use Rattle.qsg_get.specs.declared.phases.Phase.TheVariants as get_phase
use Rattle.qsg_get.specs.Steps.{Next as NextGet}
use Rattle.qsg_get.specs.Works.{Work as GetWork}
use Rattle.qsg_put.specs.declared.phases.Phase.{Phase as PutPhase}
use Rattle.qsg_put.specs.declared.phases.Phase.TheVariants as put_phase
use Rattle.qsg_put.specs.Steps.{Next as NextPut}
use Rattle.qsg_put.specs.Works.{Work as PutWork}
use Rattle.qsg_fit.specs.Fits.{FitsPut, FitsGet}

-- a queue of that name is on a structure that is defined
abbrev pub IsPlaced : List ℕ → Registry → Type 0
IsPlaced name objects = (queue : Queue) → queue_named name objects ≡ Some queue → structure_number queue.structure ≤ length objects.structures

-- the ids of a message have 24 bytes
pub record HasIds (words : PutWords) : Type 0 where
  pub msg_id : length words.msg_id ≡ 24
  pub correl_id : length words.correl_id ≡ 24

-- a put of a member that is up, which fits how its task stands
pub record IsPutOf (work : PutWork) (p : Owned) : Type 0 where
  pub member : HasMember work.member p
  pub up : (manager_in work.member p.managers).up ≡ true
  pub log : IsLogKept work.member p
  pub queue : IsPlaced work.words.queue p.objects
  pub ids : HasIds work.words
  pub stands : FitsPut work.member work.words (stand work.member work.task p) work.phase

-- a get of a member that is up, which fits how its task stands
pub record IsGetOf (work : GetWork) (p : Owned) : Type 0 where
  pub member : HasMember work.member p
  pub up : (manager_in work.member p.managers).up ≡ true
  pub log : IsLogKept work.member p
  pub queue : IsPlaced work.queue p.objects
  pub stands : FitsGet work.member (stand work.member work.task p) work.phase

-- a request counts as one in progress from its check on
abbrev pub IsSteadyAtPut : ℕ → ℕ → PutPhase → Owned → Type 0
IsSteadyAtPut a b put_phase.Check p = IsSteady a b p
IsSteadyAtPut a b (put_phase.Connect u terms) p = IsSteady a (b + 1) p
IsSteadyAtPut a b (put_phase.Write u terms epoch) p = IsSteady a (b + 1) p

abbrev pub IsSteadyAtGet : ℕ → ℕ → GetPhase → Owned → Type 0
IsSteadyAtGet a b get_phase.Check p = IsSteady a b p
IsSteadyAtGet a b (get_phase.Connect u terms) p = IsSteady a (b + 1) p
IsSteadyAtGet a b (get_phase.Take u terms epoch) p = IsSteady a (b + 1) p

-- then it is in progress, or was answered
abbrev pub IsSteadyAfter : ℕ → ℕ → Turn → Owned → Type 0
IsSteadyAfter a b More p = IsSteady a (b + 1) p
IsSteadyAfter a b (Ended reply) p = IsSteady (a + 1) b p
IsSteadyAfter a b (Waits cause) p = ⊥

-- then it fits, or its task may have a further request
abbrev pub FitsAfter : Type 0 → Stand → Turn → Type 0
FitsAfter fits s More = fits
FitsAfter fits s (Ended reply) = is_open s.task.stage ≡ true
FitsAfter fits s (Waits cause) = ⊥

-- what a step of a request keeps, which doesn't wait; `fits` says of a request that goes on that it fits
pub record Keeps (a b : ℕ) (m : Member) (t : TaskNo) (p q : Owned) (turn : Turn) (fits : Type 0) : Type 0 where
  pub steady : IsSteadyAfter a b turn q
  pub spares : SparesOthers m t p q
  pub fits_after : FitsAfter fits (stand m t q) turn

abbrev pub KeepsPut : ℕ → ℕ → Member → TaskNo → PutWords → Owned → NextPut → Type 0
KeepsPut a b m t words p next = Keeps a b m t p next.parts next.turn (FitsPut m words (stand m t next.parts) next.phase)

abbrev pub KeepsGet : ℕ → ℕ → Member → TaskNo → Owned → NextGet → Type 0
KeepsGet a b m t p next = Keeps a b m t p next.parts next.turn (FitsGet m (stand m t next.parts) next.phase)

-- ---- a COMMIT or BACKOUT

-- the run of this unit, which the task holds, is being written
pub record IsHardening (u : UnitName) (task : Task) : Type 0 where
  pub ops : List (StructNo × Op)
  pub claims : List Claim
  pub first : ℕ
  pub is : task ≡ hardening_task u ops claims first

-- only the marks are left of this unit, which the task holds
pub record IsSettling (u : UnitName) (task : Task) : Type 0 where
  pub claims : List Claim
  pub first : Option ℕ
  pub count : ℕ
  pub is : task ≡ settling_task u claims first count

-- how the task stands at a phase
abbrev pub FitsEnd : Task → EndPhase → Type 0
FitsEnd task end_phase.Latch = is_open task.stage ≡ true
FitsEnd task (end_phase.Pages u count) = IsHardening u task
FitsEnd task (end_phase.Settle u count) = IsSettling u task
FitsEnd task (end_phase.Publish u count) = IsSettling u task × (next_claim task ≡ None)
FitsEnd task end_phase.GiveUp = is_open task.stage ≡ true
FitsEnd task (end_phase.Undo u count) = IsSettling u task

abbrev pub KeepsEnd : ℕ → ℕ → Member → TaskNo → Owned → NextEnd → Type 0
KeepsEnd a b m t p next = Keeps a b m t p next.parts next.turn (FitsEnd (task_at m t next.parts.managers) next.phase)
