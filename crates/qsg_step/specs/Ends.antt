-- what the end of a member leaves
use Rattle.std.specs.Prelude.{ℕ, ◌≡◌, Bool, true, false, not, nat_lt, ◌&&◌, List, length, Option, Some, None, is_some, if◌then◌else◌}
use Rattle.qsg_num.specs.declared.seats.Member.{Member}
use Rattle.qsg_num.specs.declared.seats.TaskNo.{TaskNo}
use Rattle.qsg_num.specs.declared.seats.TaskNo.TheVariants as task
use Rattle.qsg_num.specs.declared.ids.Actor.{Actor}
use Rattle.qsg_num.specs.declared.ids.Actor.TheVariants as actor
use Rattle.qsg_num.specs.declared.ids.Incarnation.{Incarnation}
use Rattle.qsg_objects.specs.declared.directives.Directive.{Directive}
use Rattle.qsg_requests.specs.declared.replies.Reason.TheVariants.{ConnectionBroken}
use Rattle.qsg_requests.specs.declared.replies.Reply.{Reply}
use Rattle.qsg_requests.specs.declared.replies.Reply.TheVariants.{Refused}
use Rattle.qsg_requests.specs.declared.transcript.Answer.{Answer}
use Rattle.qsg_agenda.specs.Courses.{Course, verb_of, next_of, answered}
use Rattle.qsg_group.specs.declared.tasks.Task.{Task}
use Rattle.qsg_manager.specs.Marked.{marks_of}
use Rattle.qsg_manager.specs.Storage.{manager_in, task_at}
use Rattle.qsg_parts.specs.Owned.{Owned}
use Rattle.qsg_works.specs.declared.work.Work.{Work}
use Rattle.qsg_works.specs.InHand.{work_of, with_work}
use Rattle.qsg_crash.specs.Crashes.{IsCrash}
use Rattle.qsg_peers.specs.Peers.{peer_of, with_peer, ended_peer}
use Rattle.qsg_tallies.specs.Tallies.{new_tally, with_tally}
use Rattle.qsg_step.specs.States.{State, with_due}

-- the answer to a directive, where the history had so many items before the step
abbrev pub answer_at : ℕ → Directive → Reply → Answer
answer_at at d reply = record { verb = verb_of d; reply = reply; at = at }

-- a task has a unit with an operation
abbrev pub has_unit : Task → Bool
has_unit t = nat_lt 0 (length t.ops) && is_some t.unit

-- ---- a request in progress is answered 2009

abbrev pub broken : Actor → ℕ → Option Directive → List Course → List Course
broken who at None courses = courses
broken who at (Some d) courses = answered who (answer_at at d (Refused ConnectionBroken)) courses

abbrev pub broken_if : Bool → Actor → ℕ → List Course → List Course
broken_if true who at courses = broken who at (next_of who courses) courses
broken_if false who at courses = courses

-- that of one task, and those of all tasks of a member
abbrev pub broken_task : Member → TaskNo → List (Option Work) → ℕ → List Course → List Course
broken_task m t works at courses = broken_if (is_some (work_of m t works)) (actor.Task m t) at courses

abbrev pub broken_off : Member → List (Option Work) → ℕ → List Course → List Course
broken_off m works at courses =
    broken_task m task.Four works at (broken_task m task.Three works at (broken_task m task.Two works at (broken_task m task.One works at courses)))

-- no task of a member has a work in hand
abbrev pub dropped : Member → List (Option Work) → List (Option Work)
dropped m works = with_work m task.Four None (with_work m task.Three None (with_work m task.Two None (with_work m task.One None works)))

-- ---- a task without a request in progress whose unit has an operation is told so by its next request

abbrev pub loses_unit : Member → TaskNo → List (Option Work) → Owned → Bool
loses_unit m t works p = not (is_some (work_of m t works)) && has_unit (task_at m t p.managers)

abbrev pub due_task : Member → TaskNo → List (Option Work) → Owned → List Bool → List Bool
due_task m t works p due = if loses_unit m t works p then with_due m t true due else due

abbrev pub due_after : Member → List (Option Work) → Owned → List Bool → List Bool
due_after m works p due =
    due_task m task.Four works p (due_task m task.Three works p (due_task m task.Two works p (due_task m task.One works p due)))

-- ---- the end of a member

-- the incarnation in which a member is
abbrev pub incarnation_of : Member → Owned → Incarnation
incarnation_of m p = (manager_in m p.managers).incarnation

-- Its member's end leaves its tasks' requests answered 2009, or due so, its system task's work and what that gave up are
-- gone, and the marks are counted that name the incarnation which failed.
abbrev pub ended : Member → Owned → State → State
ended m q s = record s {
  parts = q;
  courses = broken_off m s.works (length s.parts.history.items) s.courses;
  works = dropped m s.works;
  due = due_after m s.works s.parts s.due;
  peers = with_peer m (ended_peer (peer_of m s.peers)) s.peers;
  tallies = with_tally (new_tally m (incarnation_of m s.parts) (marks_of m (incarnation_of m s.parts) s.parts.structures)) s.tallies;
}

pub record IsEnd (m : Member) (s r : State) : Type 0 where
  pub crash : IsCrash m s.parts r.parts
  pub after : r ≡ ended m r.parts s
