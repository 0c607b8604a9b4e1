-- how many steps are left at most to a group that works its plan
use Rattle.std.specs.Prelude.{ℕ, ◌+◌, ◌-◌, ◌*◌, ◌^◌, List, [], ◌∷◌, ◌++◌, length, drop, Option, Some, None, count_by, sum_by}
use Rattle.qsg_num.specs.declared.seats.Member.{Member}
use Rattle.qsg_num.specs.declared.ids.Incarnation.{Incarnation}
use Rattle.qsg_logpage.specs.declared.step.Phase.{Phase as PagePhase}
use Rattle.qsg_logpage.specs.declared.step.Phase.TheVariants.{Fresh, GateShut, ShutSafe, BodyWritten, BodySafe, GateWritten}
use Rattle.qsg_logpage.specs.Log.{Hand}
use Rattle.qsg_repo.specs.declared.lives.Life.{Life}
use Rattle.qsg_repo.specs.Lives.{is_open, is_unharmed}
use Rattle.qsg_repo.specs.Tables.{Repository}
use Rattle.qsg_agenda.specs.Courses.{Course}
use Rattle.qsg_group.specs.declared.tasks.Task.{Task}
use Rattle.qsg_group.specs.Observers.{left_by}
use Rattle.qsg_manager.specs.Storage.{task_at}
use Rattle.qsg_logs.specs.Kept.{log_in}
use Rattle.qsg_parts.specs.Owned.{Owned}
use Rattle.qsg_put.specs.declared.phases.Phase.{Phase as PutPhase}
use Rattle.qsg_put.specs.declared.phases.Phase.TheVariants as put_phase
use Rattle.qsg_get.specs.declared.phases.Phase.{Phase as GetPhase}
use Rattle.qsg_get.specs.declared.phases.Phase.TheVariants as get_phase
use Rattle.qsg_commit.specs.declared.phases.Phase.{Phase as EndPhase}
use Rattle.qsg_commit.specs.declared.phases.Phase.TheVariants as end_phase
use Rattle.qsg_works.specs.declared.work.Work.{Work}
use Rattle.qsg_works.specs.declared.work.Work.TheVariants.{Put, Get, Commit}
use Rattle.qsg_start.specs.Works.{Work as StartWork}
use Rattle.qsg_start.specs.Pace.{left_of_start}
use Rattle.qsg_peer.specs.declared.phases.Phase.{Phase as PeerPhase}
use Rattle.qsg_peer.specs.declared.phases.Phase.TheVariants as peer_phase
use Rattle.qsg_peer.specs.Works.{Work as PeerWork}
use Rattle.qsg_peer.specs.Pace.{left_of_peer}
use Rattle.qsg_peers.specs.Peers.{Peer}
use Rattle.qsg_step.specs.States.{State}

-- ---- the run of a unit

-- a page of a run takes so many steps at most
abbrev pub steps_of_page : ℕ
steps_of_page = 6

-- so many of them are left at each phase
abbrev pub left_of_page : PagePhase → ℕ
left_of_page Fresh = steps_of_page
left_of_page GateShut = 5
left_of_page ShutSafe = 4
left_of_page BodyWritten = 3
left_of_page BodySafe = 2
left_of_page GateWritten = 1

-- the page in hand, and those behind it
abbrev pub left_of_run : Option Hand → ℕ
left_of_run None = 0
left_of_run (Some hand) = left_of_page hand.phase + steps_of_page * length (drop 1 hand.pages)

-- ---- a request

-- More steps than any one request, START or work of a system task takes: a unit has fewer than 2^30 marks, a log fewer
-- than 2^20 pages, and the structures of a group have fewer than 2^34 entries.
abbrev pub whole : ℕ
whole = 2 ^ 36

-- a put checks, connects and writes
abbrev pub left_of_put : PutPhase → ℕ
left_of_put put_phase.Check = 3
left_of_put (put_phase.Connect u terms) = 2
left_of_put (put_phase.Write u terms epoch) = 1

-- a get checks, connects and takes
abbrev pub left_of_get : GetPhase → ℕ
left_of_get get_phase.Check = 3
left_of_get (get_phase.Connect u terms) = 2
left_of_get (get_phase.Take u terms epoch) = 1

-- the marks of a task's unit that aren't settled
abbrev pub marks_left : Task → ℕ
marks_left task = length (left_by task.stage task.claims)

-- A COMMIT writes its unit's run, takes each mark off, and ends; a BACKOUT takes each mark off. Before its first step
-- either counts whole.
abbrev pub left_of_end : EndPhase → Task → Option Hand → ℕ
left_of_end end_phase.Latch task hand = whole
left_of_end (end_phase.Pages u count) task hand = left_of_run hand + (marks_left task + 2)
left_of_end (end_phase.Settle u count) task hand = marks_left task + 2
left_of_end (end_phase.Publish u count) task hand = 1
left_of_end end_phase.GiveUp task hand = whole
left_of_end (end_phase.Undo u count) task hand = marks_left task + 1

-- what is left of a request in progress
abbrev pub left_of : Owned → Work → ℕ
left_of p (Put work) = left_of_put work.phase
left_of p (Get work) = left_of_get work.phase
left_of p (Commit work) = left_of_end work.phase (task_at work.member work.task p.managers) (log_in work.member p.logs).writer.hand

-- A task without a request in progress counts a whole one, so that a request that begins lowers the number.
abbrev pub left_in : Owned → Option Work → ℕ
left_in p None = whole
left_in p (Some work) = left_of p work

-- so does the operator without a START in progress
abbrev pub left_of_starting : Option StartWork → ℕ
left_of_starting None = whole
left_of_starting (Some work) = left_of_start work

-- ---- a system task

-- the incarnation that a work has found
abbrev pub found_at : PeerPhase → List (Member × Incarnation)
found_at peer_phase.Find = []
found_at (peer_phase.Low life) = (life.member, life.incarnation) ∷ []
found_at (peer_phase.At life stage) = (life.member, life.incarnation) ∷ []

abbrev pub found_by : Option PeerWork → List (Member × Incarnation)
found_by None = []
found_by (Some work) = found_at work.phase

-- the incarnations that a system task hasn't to find any more: the one on which it works, and those that it gave up
abbrev pub passed_by : Peer → List (Member × Incarnation)
passed_by peer = found_by peer.work ++ peer.given_up

-- how many unresolved ones it has still to find
abbrev pub to_find : List Life → Peer → ℕ
to_find lives peer = count_by (is_open (passed_by peer)) lives

abbrev pub left_in_hand : Owned → Option PeerWork → ℕ
left_in_hand p None = 0
left_in_hand p (Some work) = left_of_peer work p + 1

-- a whole work for each incarnation that it has still to find, and what is left of the one in hand
abbrev pub left_to_peer : Owned → Peer → ℕ
left_to_peer p peer = whole * to_find p.repo.lives peer + left_in_hand p peer.work

-- ---- the group

-- what is left of all that is in hand, and of what system tasks have still to find
abbrev pub work_left : State → ℕ
work_left s = sum_by (left_in s.parts) s.works + (sum_by (left_to_peer s.parts) s.peers + left_of_starting s.starting)

-- the directives of an actor that aren't answered
abbrev pub left_to_do : Course → ℕ
left_to_do c = length c.directives - length c.answers

-- those of all actors
abbrev pub unanswered : List Course → ℕ
unanswered courses = sum_by left_to_do courses

-- the incarnations that can still fail
abbrev pub unharmed : List Life → ℕ
unharmed lives = count_by (λ (l : Life). is_unharmed l.fate) lives

-- Answers and ends of members, which alone leave more work: a directive may be a START, and then it gives an incarnation
-- that can fail.
abbrev pub events_left : State → ℕ
events_left s = 2 * unanswered s.courses + unharmed s.parts.repo.lives

-- More than what any of these adds. An incarnation that fails is one more to find for each of eight system tasks, and that
-- of its member has to find each unresolved one anew; there are no more than the repository can give.
abbrev pub most_added : Repository → ℕ
most_added repo = whole * (repo.starts + 9)

abbrev pub left : State → ℕ
left s = events_left s * most_added s.parts.repo + work_left s
