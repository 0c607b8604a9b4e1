-- The answers of all actors fit their directives and the history.
use Rattle.std.specs.Prelude.{ℕ, ◌+◌, ◌≡◌, ◌<◌, ◌≤◌, Bool, true, false, if◌then◌else◌, List, [], ◌∷◌, length, Option, Some, None, IsSome, option_map, map, count_by, sum_by, take, Contains}
use Rattle.std.specs.List.{AllByRecursion}
use Rattle.qsg_num.specs.declared.seats.Member.{Member}
use Rattle.qsg_num.specs.declared.seats.StructNo.{StructNo}
use Rattle.qsg_num.specs.declared.seats.TaskNo.{TaskNo}
use Rattle.qsg_num.specs.declared.seats.TaskNo.TheVariants as task
use Rattle.qsg_num.specs.declared.ids.Actor.{Actor}
use Rattle.qsg_num.specs.declared.ids.UnitName.{UnitName}
use Rattle.qsg_num.specs.Ids.{same_unit}
use Rattle.qsg_num.specs.Seats.{member_number}
use Rattle.qsg_msg.specs.declared.message.Message.{Message}
use Rattle.qsg_model.specs.declared.history.Item.{Item}
use Rattle.qsg_model.specs.declared.history.Item.TheVariants.{Unit as UnitOf}
use Rattle.qsg_model.specs.declared.history.Op.{Op}
use Rattle.qsg_model.specs.History.{key, names}
use Rattle.qsg_model.specs.Past.{held_at, is_unit}
use Rattle.qsg_lists.specs.declared.parts.Entry.{Entry}
use Rattle.qsg_lists.specs.Structures.{ListStructure}
use Rattle.qsg_objects.specs.declared.directives.Directive.{Directive}
use Rattle.qsg_objects.specs.Registry.{Registry, queue_named}
use Rattle.qsg_requests.specs.declared.replies.Reason.TheVariants as reason
use Rattle.qsg_requests.specs.declared.replies.Reply.{Reply}
use Rattle.qsg_requests.specs.declared.replies.Reply.TheVariants as reply
use Rattle.qsg_requests.specs.declared.transcript.Answer.{Answer}
use Rattle.qsg_requests.specs.declared.words.PutWords.{PutWords}
use Rattle.qsg_requests.specs.declared.words.Request.{Request}
use Rattle.qsg_requests.specs.declared.words.Request.TheVariants as request
use Rattle.qsg_agenda.specs.Courses.{Course}
use Rattle.qsg_group.specs.declared.tasks.Task.{Task}
use Rattle.qsg_group.specs.Laws.{IsDrawn}
use Rattle.qsg_group.specs.Observers.{key_of_op, keys_claimed}
use Rattle.qsg_manager.specs.Groups.{seat_of}
use Rattle.qsg_manager.specs.Storage.{manager_in, task_at}
use Rattle.qsg_manager.specs.Views.{is_outside}
use Rattle.qsg_parts.specs.Owned.{Owned}
use Rattle.qsg_put.specs.declared.phases.Phase.{Phase as PutPhase}
use Rattle.qsg_put.specs.declared.phases.Phase.TheVariants as put_phase
use Rattle.qsg_put.specs.Checking.{terms_of}
use Rattle.qsg_commit.specs.declared.phases.Phase.{Phase as EndPhase}
use Rattle.qsg_commit.specs.declared.phases.Phase.TheVariants as end_phase
use Rattle.qsg_works.specs.declared.work.Work.{Work}
use Rattle.qsg_works.specs.declared.work.Work.TheVariants.{Put, Get, Commit}
use Rattle.qsg_works.specs.InHand.{work_of}
use Rattle.qsg_step.specs.declared.asked.Asked.{Asked}
use Rattle.qsg_step.specs.declared.asked.Asked.TheVariants as asks
use Rattle.qsg_step.specs.Asking.{asked}
use Rattle.qsg_step.specs.States.{State, is_due}
use Rattle.qsg_answered.specs.Telling.{requested, is_broken, with_answered, told, pending_of, commits_told, starts_in}
use Rattle.qsg_answered.specs.Cutting.{WasCutOff, AreToldOf}
use Rattle.qsg_answered.specs.Timing.{AreTimed}
use Rattle.qsg_answered.specs.Systems.{AreSystemsFitting}

-- ---- one answer

-- so many operations, one at least
pub record IsCountOf (ops : List (StructNo × Op)) (count : ℕ) : Type 0 where
  pub counted : count ≡ length ops
  pub some : 0 < count

-- the unit is in the history with exactly these operations, of which there are so many
pub record IsCommitted (h : List Item) (u : UnitName) (ops : List (StructNo × Op)) (count : ℕ) : Type 0 where
  pub there : Contains h (UnitOf u ops)
  pub counted : IsCountOf ops count

-- a message that was got was held, with that body, by the history as it was at that step
pub record IsRead (h : List Item) (at : ℕ) (m : Message) : Type 0 where
  pub past : at ≤ length h
  pub held : held_at (key m) (take at h) ≡ Some m

-- no unit ended, since nothing was pending
pub record IsNothing (ops : List (StructNo × Op)) (count : ℕ) : Type 0 where
  pub pending : ops ≡ []
  pub none : count ≡ 0

-- a COMMIT names the unit of the operations that were pending, and none exactly where nothing was; a BACKOUT likewise
abbrev pub EndsCommit : List Item → List (StructNo × Op) → Option UnitName → ℕ → Type 0
EndsCommit h ops None count = IsNothing ops count
EndsCommit h ops (Some u) count = IsCommitted h u ops count

abbrev pub EndsBackout : List (StructNo × Op) → Option UnitName → ℕ → Type 0
EndsBackout ops None count = IsNothing ops count
EndsBackout ops (Some u) count = IsCountOf ops count

-- how a request may end, with what was pending before it and the items that the history had then
abbrev pub EndsRequest : Registry → List Item → List (StructNo × Op) → ℕ → Request → Reply → Type 0
EndsRequest objects h ops at (request.Put words) (reply.PutOk id placed) = IsSome (queue_named words.queue objects)
EndsRequest objects h ops at (request.Put words) (reply.Refused reason) = Unit {0}
EndsRequest objects h ops at (request.Get queue select) (reply.Got m) = IsRead h at m
EndsRequest objects h ops at (request.Get queue select) (reply.Refused reason) = Unit {0}
EndsRequest objects h ops at request.Commit (reply.Unit unit count) = EndsCommit h ops unit count
EndsRequest objects h ops at request.Backout (reply.Unit unit count) = EndsBackout ops unit count
EndsRequest objects h ops at asked r = ⊥

-- a 2009 may end any request
abbrev pub EndsUnlessBroken : Bool → Registry → List Item → List (StructNo × Op) → ℕ → Request → Reply → Type 0
EndsUnlessBroken true objects h ops at asked r = Unit {0}
EndsUnlessBroken false objects h ops at asked r = EndsRequest objects h ops at asked r

-- How a directive ends that asks for no request. A WAIT is done. A CRASH is done, or its member is down; a START gives
-- its member an incarnation, or the member is up, or its log can't be read. All others aren't built yet.
abbrev pub EndsOther : Asked → Reply → Type 0
EndsOther (asks.Until other answers) reply.Done = Unit {0}
EndsOther (asks.Crash m pick) reply.Done = Unit {0}
EndsOther (asks.Crash m pick) (reply.Refused reason.Down) = Unit {0}
EndsOther (asks.Start m) (reply.Started incarnation) = 1 < incarnation.number
EndsOther (asks.Start m) (reply.Refused reason.Up) = Unit {0}
EndsOther (asks.Start m) (reply.Refused (reason.LogFault n why)) = n ≡ m
EndsOther asks.Later (reply.Refused reason.NotYet) = Unit {0}
EndsOther other r = ⊥

abbrev pub EndsAsked : Registry → List Item → List (StructNo × Op) → Asked → Answer → Option Request → Type 0
EndsAsked objects h ops other a (Some asked) = EndsUnlessBroken (is_broken a.reply) objects h ops a.at asked a.reply
EndsAsked objects h ops other a None = EndsOther other a.reply

-- ---- all answers of a course

-- each answer fits its directive, the history, and what was pending before it
abbrev pub AllFit : Registry → List Item → Actor → List (StructNo × Op) → List (Directive × Answer) → Type 0
AllFit objects h who ops [] = Unit {0}
AllFit objects h who ops ((d, a) ∷ answers) = EndsAsked objects h ops (asked who d) a (requested who d) × AllFit objects h who (with_answered objects who ops (d, a)) answers

abbrev pub FitsCourse : Registry → List Item → Course → Type 0
FitsCourse objects h c = AllFit objects h c.actor [] (told c)

-- ---- what tasks hold

-- a put that was checked has the terms of its queue
abbrev pub HasTerms : Registry → PutWords → PutPhase → Type 0
HasTerms objects words put_phase.Check = Unit {0}
HasTerms objects words (put_phase.Connect u terms) = option_map (terms_of words) (queue_named words.queue objects) ≡ Some terms
HasTerms objects words (put_phase.Write u terms epoch) = option_map (terms_of words) (queue_named words.queue objects) ≡ Some terms

-- the unit is in the history with these operations, and the marks that are left of it are theirs
pub record IsSettled (h : List Item) (task : Task) (u : UnitName) (ops : List (StructNo × Op)) (count : ℕ) : Type 0 where
  pub committed : IsCommitted h u ops count
  pub claims : keys_claimed task.claims ≡ map key_of_op ops

-- A COMMIT in hand has the pending operations in its unit up to its last page, and then in the history. The unit of a
-- BACKOUT in hand isn't in the history.
abbrev pub HoldsEnd : List Item → Task → List (StructNo × Op) → EndPhase → Type 0
HoldsEnd h task ops end_phase.Latch = task.ops ≡ ops
HoldsEnd h task ops (end_phase.Pages u count) = (task.ops ≡ ops) × IsCountOf ops count
HoldsEnd h task ops (end_phase.Settle u count) = IsSettled h task u ops count
HoldsEnd h task ops (end_phase.Publish u count) = IsSettled h task u ops count
HoldsEnd h task ops end_phase.GiveUp = task.ops ≡ ops
HoldsEnd h task ops (end_phase.Undo u count) = (is_unit u h ≡ false) × IsCountOf ops count

-- a task's unit has the operations that are pending, until a COMMIT or BACKOUT in hand has decided it
abbrev pub Holds : Registry → List Item → Task → List (StructNo × Op) → Option Work → Type 0
Holds objects h task ops None = task.ops ≡ ops
Holds objects h task ops (Some (Put work)) = (task.ops ≡ ops) × HasTerms objects work.words work.phase
Holds objects h task ops (Some (Get work)) = task.ops ≡ ops
Holds objects h task ops (Some (Commit work)) = HoldsEnd h task ops work.phase

-- the member ended while the task's unit had an operation, and the task wasn't told yet: it holds no unit, and has no
-- request in progress
pub record HasLostUnit (task : Task) (ops : List (StructNo × Op)) (work : Option Work) : Type 0 where
  pub free : task.unit ≡ None
  pub idle : work ≡ None
  pub some : 0 < length ops

abbrev pub HoldsUnlessDue : Bool → Registry → List Item → Task → List (StructNo × Op) → Option Work → Type 0
HoldsUnlessDue true objects h task ops work = HasLostUnit task ops work
HoldsUnlessDue false objects h task ops work = Holds objects h task ops work

-- ---- units that were backed out

-- a unit isn't in the history and never will be: its name was drawn, and no task has it
pub record IsLeftOut (p : Owned) (u : UnitName) : Type 0 where
  pub out : is_unit u p.history.items ≡ false
  pub drawn : IsDrawn u (seat_of (manager_in u.member p.managers))
  pub unheld : (m : Member) (t : TaskNo) → (task_at m t p.managers).unit ≡ Some u → ⊥

abbrev pub StaysOut : Owned → Option Request → Reply → Type 0
StaysOut p (Some request.Backout) (reply.Unit (Some u) count) = IsLeftOut p u
StaysOut p asked r = Unit {0}

abbrev pub StaysOutTold : Owned → Actor → Directive × Answer → Type 0
StaysOutTold p who (d, a) = StaysOut p (requested who d) a.reply

abbrev pub LeavesOut : Owned → Course → Type 0
LeavesOut p c = AllByRecursion (StaysOutTold p c.actor) (told c)

-- ---- units that were committed

-- how many answers to a COMMIT name the unit
abbrev pub commits_in : UnitName → Course → ℕ
commits_in u c = count_by (commits_told c.actor u) (told c)

-- the unit of a COMMIT in hand whose last page is safe
abbrev pub has_committed : UnitName → EndPhase → Bool
has_committed u end_phase.Latch = false
has_committed u (end_phase.Pages v count) = false
has_committed u (end_phase.Settle v count) = same_unit u v
has_committed u (end_phase.Publish v count) = same_unit u v
has_committed u end_phase.GiveUp = false
has_committed u (end_phase.Undo v count) = false

abbrev pub commits_now : UnitName → Option Work → Bool
commits_now u None = false
commits_now u (Some (Put work)) = false
commits_now u (Some (Get work)) = false
commits_now u (Some (Commit work)) = has_committed u work.phase

-- how many COMMITs the unit belongs to: answered with it, answered 2009 after it was committed, or in hand
abbrev pub commits_of : (UnitName → Bool) → UnitName → List Course → List (Option Work) → ℕ
commits_of cut_off u courses works = sum_by (commits_in u) courses + count_by (commits_now u) works + (if cut_off u then 1 else 0)

-- ---- bodies

-- the body of each message stands in its entry
abbrev pub IsInside : Entry → Type 0
IsInside e = is_outside e.place ≡ false

abbrev pub AreInside : ListStructure → Type 0
AreInside structure = AllByRecursion IsInside structure.entries

-- ---- the whole group

-- What all actors were answered is what happened. Each answer fits its directive and the history; what a task was
-- answered and hasn't ended yet is what its unit holds, unless its member ended; no unit that was backed out is in the
-- history; and each unit of the history belongs to exactly one COMMIT. A unit was cut off where its member ended after it
-- was committed, and before its COMMIT was answered.
pub record AreFitting (s : State) : Type 0 where
  pub answers : AllByRecursion (FitsCourse s.parts.objects s.parts.history.items) s.courses
  pub tasks : (m : Member) (t : TaskNo) → HoldsUnlessDue (is_due m t s.due) s.parts.objects s.parts.history.items (task_at m t s.parts.managers) (pending_of s.parts.objects m t s.courses) (work_of m t s.works)
  -- system tasks make no operation
  pub none : (m : Member) → pending_of s.parts.objects m task.System s.courses ≡ []
  pub left_out : AllByRecursion (LeavesOut s.parts) s.courses
  pub cut_off : UnitName → Bool
  pub cut : (u : UnitName) → cut_off u ≡ true → WasCutOff u s
  pub once : (u : UnitName) → commits_of cut_off u s.courses s.works ≡ count_by (same_unit u) (names s.parts.history.items)
  pub inside : AllByRecursion AreInside s.parts.structures
  pub told : AreToldOf cut_off s.parts
  pub timed : AllByRecursion (λ (c : Course). AreTimed 0 (length s.parts.history.items) c.answers) s.courses
  -- each member had its first incarnation at first, and one more for each START that was answered so
  pub given : (m : Member) → member_number m ≤ length s.parts.managers → (manager_in m s.parts.managers).incarnation.number ≡ 1 + sum_by (starts_in m) s.courses
  pub systems : AreSystemsFitting s
