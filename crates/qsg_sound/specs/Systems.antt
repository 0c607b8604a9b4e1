-- what holds of the work that a system task has in hand, and of a START in progress
use Rattle.std.specs.Prelude.{◌≡◌, ◌≤◌, ◌==◌, ◌||◌, Bool, true, false, Option, Some, None}
use Rattle.qsg_num.specs.declared.seats.Member.{Member}
use Rattle.qsg_num.specs.declared.ids.Actor.TheVariants as actor
use Rattle.qsg_num.specs.Seats.{member_number}
use Rattle.qsg_objects.specs.declared.directives.Directive.TheVariants as directive
use Rattle.qsg_repo.specs.Tables.{low_of}
use Rattle.qsg_repo.specs.Calls.{is_unresolved}
use Rattle.qsg_agenda.specs.Courses.{next_of}
use Rattle.qsg_logs.specs.Kept.{log_in}
use Rattle.qsg_parts.specs.Owned.{HasMember}
use Rattle.qsg_steady.specs.Steady.{AreTelling, IsLawful}
use Rattle.qsg_walk.specs.Walks.{Walk}
use Rattle.qsg_reading.specs.Reading.{IsReading, HasReadWritten, KeepsLast}
use Rattle.qsg_peer.specs.declared.phases.FailedLife.{FailedLife}
use Rattle.qsg_peer.specs.declared.phases.Phase.{Phase}
use Rattle.qsg_peer.specs.declared.phases.Phase.TheVariants.{Find, Low, At}
use Rattle.qsg_peer.specs.Machine.{IsOver}
use Rattle.qsg_peer.specs.Needs.{MayStepAt}
use Rattle.qsg_peer.specs.Sweeping.{HasSweptAt}
use Rattle.qsg_peer.specs.Works.{Work as PeerWork, IsSound as IsPeerSound}
use Rattle.qsg_start.specs.declared.phases.Phase.{Phase as StartPhase}
use Rattle.qsg_start.specs.declared.phases.Phase.TheVariants as starting
use Rattle.qsg_start.specs.Following.{IsFollowed, walks}
use Rattle.qsg_start.specs.Works.{Work as StartWork, IsSound as IsStartSound}
use Rattle.qsg_step.specs.States.{State, is_member_up}

-- what the types of a peer's work and of a START keep
abbrev pub IsPeerKept : PeerWork → Type 0
IsPeerKept w = IsPeerSound w.phase w.walk

abbrev pub IsStartKept : StartWork → Type 0
IsStartKept w = IsStartSound w.phase w.walk

-- a START of the member has passed its check
abbrev pub is_starting : Member → Option StartWork → Bool
is_starting m None = false
is_starting m (Some work) = member_number work.member == member_number m

-- the member is up, or is about to be: its log is gone on with
abbrev pub goes_on : Member → State → Bool
goes_on m s = is_member_up m s || is_starting m s.starting

-- What the walk of a work has read of the log of its incarnation's member, as long as the incarnation is unresolved:
-- where logs tell their bytes, it knows of the incarnation's units at its end.
pub record HasRead (life : FailedLife) (w : Walk) (s : State) : Type 0 where
  pub reads : (l : IsLawful s.parts) → IsReading (life.member, life.incarnation) (l.rest.logs life.member) (log_in life.member s.parts.logs) w
  pub last : KeepsLast (low_of life.member s.parts.repo).number w
  pub written : goes_on life.member s ≡ true → HasReadWritten w (log_in life.member s.parts.logs)

abbrev pub Reads : FailedLife → Walk → State → Type 0
Reads life w s = AreTelling s.parts → is_unresolved life.member life.incarnation s.parts.repo ≡ true → HasRead life w s

-- the incarnation on which a work works is over, was one of a member of the group, and is read as is right
pub record IsWorkedOn (life : FailedLife) (s : State) : Type 0 where
  pub member : HasMember life.member s.parts
  pub over : IsOver life s.parts

abbrev pub WorksAt : Phase → Walk → State → Type 0
WorksAt Find w s = Unit {0}
WorksAt (Low life) w s = IsWorkedOn life s
WorksAt (At life stage) w s = IsWorkedOn life s × Reads life w s

-- The work in hand of a member's system task is its own, and its member is up; all marks are off that it has passed.
pub record IsPeerAt (m : Member) (w : PeerWork) (s : State) : Type 0 where
  pub own : w.member ≡ m
  pub up : is_member_up m s ≡ true
  pub may : MayStepAt w.phase s.parts
  pub swept : HasSweptAt w.phase s.parts
  pub works : WorksAt w.phase w.walk s

-- a START has passed its check
abbrev pub has_checked : StartPhase → Bool
has_checked starting.Check = false
has_checked starting.Low = true
has_checked starting.Read = true
has_checked (starting.Begin page) = true

-- A START in progress is what the operator's next directive asks for, and its member is down; its walk follows the log
-- of the member from the low page on.
pub record IsStarting (w : StartWork) (s : State) : Type 0 where
  pub asked : next_of actor.Operator s.courses ≡ Some (directive.Start w.member)
  pub member : HasMember w.member s.parts
  pub down : is_member_up w.member s ≡ false
  pub checked : has_checked w.phase ≡ true
  pub follows : walks w.phase ≡ true → (log_in w.member s.parts.logs).tells ≡ true → IsFollowed w.member (low_of w.member s.parts.repo).number s.parts w.walk
  pub low : walks w.phase ≡ true → (low_of w.member s.parts.repo).number ≤ w.walk.next
