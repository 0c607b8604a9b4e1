-- what a group that works its plan keeps between any two steps of its actors
use Rattle.std.specs.Prelude.{ℕ, ◌+◌, ◌^◌, ◌≡◌, ◌<◌, ◌≤◌, Bool, true, false, List, length, drop, Option, Some, None, is_some, IfSome, count_by, sum_by}
use Rattle.std.specs.List.{AllByRecursion}
use Rattle.qsg_num.specs.declared.seats.Member.{Member}
use Rattle.qsg_num.specs.declared.seats.StructNo.{StructNo}
use Rattle.qsg_num.specs.declared.seats.TaskNo.{TaskNo}
use Rattle.qsg_num.specs.declared.ids.Actor.{Actor}
use Rattle.qsg_num.specs.declared.ids.Actor.TheVariants as actor
use Rattle.qsg_num.specs.declared.seats.TaskNo.TheVariants as task
use Rattle.qsg_num.specs.Seats.{member_number, structure_number}
use Rattle.qsg_objects.specs.declared.directives.Directive.{Directive}
use Rattle.qsg_objects.specs.declared.directives.Directive.TheVariants as directive
use Rattle.qsg_lists.specs.Structures.{IsSound as IsStructureSound}
use Rattle.qsg_requests.specs.declared.words.Request.{Request}
use Rattle.qsg_requests.specs.declared.words.Request.TheVariants as request
use Rattle.qsg_agenda.specs.Courses.{Course, next_of, IsAnswered}
use Rattle.qsg_directives.specs.Asking.{request_of}
use Rattle.qsg_manager.specs.Facilities.{structure_in}
use Rattle.qsg_manager.specs.Storage.{task_at}
use Rattle.qsg_logs.specs.Held.{is_open}
use Rattle.qsg_parts.specs.Owned.{Owned}
use Rattle.qsg_steady.specs.Actions.{IsLogKept}
use Rattle.qsg_steady.specs.Steady.{IsSteady}
use Rattle.qsg_commit.specs.declared.phases.Phase.{Phase as EndPhase}
use Rattle.qsg_commit.specs.declared.phases.Phase.TheVariants as end_phase
use Rattle.qsg_works.specs.declared.work.Work.{Work}
use Rattle.qsg_works.specs.declared.work.Work.TheVariants.{Put, Get, Commit}
use Rattle.qsg_works.specs.InHand.{work_of}
use Rattle.qsg_works.specs.Steps.{owner}
use Rattle.qsg_peer.specs.Sweeping.{AreOrdered}
use Rattle.qsg_peers.specs.Peers.{peer_of}
use Rattle.qsg_fit.specs.Outcomes.{IsPlaced, HasIds}
use Rattle.qsg_fit.specs.Requests.{IsRequestOf, has_begun}
use Rattle.qsg_step.specs.States.{State, IsCourseRight, is_due, is_member_up}
use Rattle.qsg_sound.specs.Systems.{IsPeerAt, IsPeerKept, IsStarting, IsStartKept}
use Rattle.qsg_sound.specs.Tallying.{AreTallied}

-- how many answers were given, how many directives there are, and how many requests are in progress
abbrev pub answers_given : List Course → ℕ
answers_given courses = sum_by (λ (c : Course). length c.answers) courses

abbrev pub directives_in : List Course → ℕ
directives_in courses = sum_by (λ (c : Course). length c.directives) courses

abbrev pub in_progress : List (Option Work) → ℕ
in_progress works = count_by is_some works

-- ---- members that directives name

abbrev pub is_start : Directive → Bool
is_start (directive.Start m) = true
is_start other = false

-- how many STARTs aren't answered yet
abbrev pub starts_in : Course → ℕ
starts_in c = count_by is_start (drop (length c.answers) c.directives)

abbrev pub starts_left : List Course → ℕ
starts_left courses = sum_by starts_in courses

-- members that are to end or to start are the group's
abbrev pub IsDirectiveWithin : ℕ → Directive → Type 0
IsDirectiveWithin members (directive.Crash m pick) = member_number m ≤ members
IsDirectiveWithin members (directive.Start m) = member_number m ≤ members
IsDirectiveWithin members other = Unit {0}

abbrev pub IsCourseWithin : ℕ → Course → Type 0
IsCourseWithin members c = AllByRecursion (IsDirectiveWithin members) c.directives

-- ---- the request that a task has in hand

-- the request that a work does
abbrev pub ended_by : EndPhase → Request
ended_by end_phase.Latch = request.Commit
ended_by (end_phase.Pages u count) = request.Commit
ended_by (end_phase.Settle u count) = request.Commit
ended_by (end_phase.Publish u count) = request.Commit
ended_by end_phase.GiveUp = request.Backout
ended_by (end_phase.Undo u count) = request.Backout

abbrev pub request_in : Work → Request
request_in (Put work) = request.Put work.words
request_in (Get work) = request.Get work.queue work.select
request_in (Commit work) = ended_by work.phase

-- the work does what the next directive of its task asks for
pub record IsAsked (m : Member) (t : TaskNo) (work : Work) (courses : List Course) : Type 0 where
  pub directive : Directive
  pub next : next_of (actor.Task m t) courses ≡ Some directive
  pub request : request_of directive ≡ Some (request_in work)

-- a work in hand has begun, is of its task, does what is asked for, and fits how the task stands
pub record IsInHand (m : Member) (t : TaskNo) (work : Work) (courses : List Course) (p : Owned) : Type 0 where
  pub own : owner work ≡ actor.Task m t
  pub begun : has_begun work ≡ true
  pub asked : IsAsked m t work courses
  pub fits : IsRequestOf work p

-- a task without a work in hand may have one: its unit is open
abbrev pub IsHand : Member → TaskNo → Option Work → List Course → Owned → Type 0
IsHand m t None courses p = member_number m ≤ length p.managers → is_open (task_at m t p.managers).stage ≡ true
IsHand m t (Some work) courses p = IsInHand m t work courses p

-- ---- what types keep, whatever a step did

abbrev pub AreLogsKept : Owned → Type 0
AreLogsKept p = (m : Member) → member_number m ≤ length p.logs → IsLogKept m p

abbrev pub AreStructuresKept : Owned → Type 0
AreStructuresKept p = (s : StructNo) → structure_number s ≤ length p.structures → IsStructureSound (structure_in s p.structures)

abbrev pub ArePeersKept : State → Type 0
ArePeersKept s = (m : Member) → IfSome (peer_of m s.peers).work IsPeerKept

pub record AreTypesKept (s : State) : Type 0 where
  pub logs : AreLogsKept s.parts
  pub structures : AreStructuresKept s.parts
  pub peers : ArePeersKept s
  pub starting : IfSome s.starting IsStartKept

-- ---- the group

-- What holds of a group between any two steps. `steady` has the laws of the machine; each name and each id that was
-- given belongs to an answer or to a request in progress, and there are fewer than 2^30 directives.
pub record IsSound (s : State) : Type 0 where
  pub right : AllByRecursion IsCourseRight s.courses
  pub within : AllByRecursion (IsCourseWithin (length s.parts.managers)) s.courses
  pub answered : AllByRecursion IsAnswered s.courses
  pub few : directives_in s.courses < 2 ^ 30
  pub forty : length s.works ≡ 40
  pub dues : length s.due ≡ 40
  pub eight : length s.peers ≡ 8
  pub four : length s.parts.structures ≤ 4
  pub steady : IsSteady (answers_given s.courses) (in_progress s.works) s.parts
  pub kept : AreTypesKept s
  pub ordered : AreOrdered s.parts
  pub placed : (name : List ℕ) → IsPlaced name s.parts.objects
  pub hands : (m : Member) (t : TaskNo) → IsHand m t (work_of m t s.works) s.courses s.parts
  -- system tasks have none
  pub systems : (m : Member) → work_of m task.System s.works ≡ None
  -- nor has a task whose next request is answered 2009
  pub owed : (m : Member) (t : TaskNo) → is_due m t s.due ≡ true → work_of m t s.works ≡ None
  -- nor have those of a member that is down
  pub down : (m : Member) (t : TaskNo) → is_member_up m s ≡ false → work_of m t s.works ≡ None
  pub peers : (m : Member) → IfSome (peer_of m s.peers).work (λ work. IsPeerAt m work s)
  pub starting : IfSome s.starting (λ work. IsStarting work s)
  -- the repository has an incarnation for each START that is left
  pub starts : starts_left s.courses + length s.parts.repo.lives ≤ s.parts.repo.starts
  pub tallies : AreTallied s

-- ---- ids

-- the ids of a message have 24 bytes
abbrev pub HasRequestIds : Request → Type 0
HasRequestIds (request.Put words) = HasIds words
HasRequestIds (request.Get queue select) = Unit {0}
HasRequestIds request.Commit = Unit {0}
HasRequestIds request.Backout = Unit {0}

abbrev pub HaveIdsAt : Option Directive → Type 0
HaveIdsAt None = Unit {0}
HaveIdsAt (Some d) = IfSome (request_of d) HasRequestIds

-- those of the request that an actor's next directive asks for
abbrev pub HaveIds : Actor → State → Type 0
HaveIds who s = HaveIdsAt (next_of who s.courses)
