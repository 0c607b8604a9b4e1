-- what steps leave of the marks of an incarnation
use Rattle.std.specs.Prelude.{ℕ, ◌≡◌, ◌<◌, true, false, [], if◌then◌else◌, Result, Ok, Err}
use Rattle.qsg_num.specs.declared.seats.StructNo.{StructNo}
use Rattle.qsg_lists.specs.declared.parts.Lost.{Lost}
use Rattle.qsg_lists.specs.declared.parts.Settled.{Settled}
use Rattle.qsg_lists.specs.declared.parts.Settled.TheVariants.{Done, NotYours}
use Rattle.qsg_manager.specs.declared.structures.MarkedEntry.{MarkedEntry}
use Rattle.qsg_lists.specs.Structures.{is_active}
use Rattle.qsg_manager.specs.Facilities.{structure_in}
use Rattle.qsg_manager.specs.Marked.{marks_of}
use Rattle.qsg_manager.specs.Storage.{manager_in}
use Rattle.qsg_parts.specs.Owned.{Owned}
use Rattle.qsg_requests.specs.declared.replies.Turn.{Turn}
use Rattle.qsg_requests.specs.declared.replies.Turn.TheVariants as turn
use Rattle.qsg_commit.specs.declared.phases.StepError.{StepError}
use Rattle.qsg_peer.specs.declared.phases.FailedLife.{FailedLife}
use Rattle.qsg_peer.specs.declared.phases.Phase.{Phase}
use Rattle.qsg_peer.specs.declared.phases.Phase.TheVariants.{Find, Low, At}
use Rattle.qsg_peer.specs.declared.phases.Stage.{Stage}
use Rattle.qsg_peer.specs.declared.phases.Stage.TheVariants.{Read, Connect, Search, Settle, Resolve}
use Rattle.qsg_peer.specs.Machine.{is_of}
use Rattle.qsg_peer.specs.Pace.{HasNoMoreMarks}
use Rattle.qsg_peer.specs.Steps.{mark_answer}
use Rattle.qsg_peer.specs.Sweeping.{HasSwept}

-- how many entries have a mark of the incarnation
abbrev pub marks_left : FailedLife → Owned → ℕ
marks_left life p = marks_of life.member life.incarnation p.structures

-- marks of the incarnation that are off stay off, as far as a peer's work has come
abbrev pub StaysSwept : FailedLife → Owned → Owned → Type 0
StaysSwept life p q = (stage : Stage) → HasSwept life stage p → HasSwept life stage q

-- As many marks of the incarnation stand as before, those that are off stay off, and above no id are more than before.
pub record LeavesMarks (life : FailedLife) (p q : Owned) : Type 0 where
  pub marks : marks_left life q ≡ marks_left life p
  pub swept : StaysSwept life p q
  pub above : HasNoMoreMarks life p q

-- ---- marks that are set

-- one where a step answers its request, and else none
abbrev pub answers_in : Result Turn StepError → ℕ
answers_in (Ok turn.More) = 0
answers_in (Ok (turn.Ended reply)) = 1
answers_in (Ok (turn.Waits cause)) = 0
answers_in (Err e) = 0

-- the incarnation is the one in which its member is up
pub record IsUp (life : FailedLife) (p : Owned) : Type 0 where
  pub up : (manager_in life.member p.managers).up ≡ true
  pub incarnation : life.incarnation ≡ (manager_in life.member p.managers).incarnation

-- no mark stands of an incarnation that its member wasn't given yet
abbrev pub AreGiven : Owned → Type 0
AreGiven p = (life : FailedLife) → (manager_in life.member p.managers).incarnation.number < life.incarnation.number → marks_left life p ≡ 0

-- a structure that isn't active has no entry
abbrev pub AreEmptyUnlessActive : Owned → Type 0
AreEmptyUnlessActive p = (s : StructNo) → is_active (structure_in s p.structures).state ≡ false → (structure_in s p.structures).entries ≡ []

-- ---- a peer's work

-- one mark of the incarnation came off where the answer is Done and the mark was one of its units, and else none
abbrev pub came_off_by : FailedLife → MarkedEntry → Result Settled Lost → ℕ
came_off_by life found (Ok Done) = if is_of life found.unit then 1 else 0
came_off_by life found (Ok (NotYours mark)) = 0
came_off_by life found (Err lost) = 0

abbrev pub came_off_on : FailedLife → Stage → Owned → ℕ
came_off_on life Read p = 0
came_off_on life (Connect s) p = 0
came_off_on life (Search connection after) p = 0
came_off_on life (Settle connection found) p = came_off_by life found (mark_answer connection found p)
came_off_on life Resolve p = 0

-- how many marks of an incarnation the step at a phase takes off
abbrev pub came_off : FailedLife → Phase → Owned → ℕ
came_off life Find p = 0
came_off life (Low other) p = 0
came_off life (At other stage) p = came_off_on life stage p
