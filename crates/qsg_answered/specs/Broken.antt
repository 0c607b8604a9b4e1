-- how often a task is told that its member ended
use Rattle.std.specs.Prelude.{ℕ, ◌+◌, ◌≡◌, Bool, not, ◌&&◌, ◌||◌, if◌then◌else◌, List, count_by, is_some}
use Rattle.qsg_num.specs.declared.seats.Member.{Member}
use Rattle.qsg_num.specs.declared.seats.TaskNo.{TaskNo}
use Rattle.qsg_num.specs.declared.ids.Actor.TheVariants as actor
use Rattle.qsg_requests.specs.declared.transcript.Answer.{Answer}
use Rattle.qsg_agenda.specs.Courses.{answers_of}
use Rattle.qsg_manager.specs.Storage.{task_at}
use Rattle.qsg_works.specs.InHand.{work_of}
use Rattle.qsg_step.specs.States.{State, is_due, is_member_up}
use Rattle.qsg_step.specs.Ends.{has_unit}
use Rattle.qsg_answered.specs.Telling.{is_broken}

-- the 2009s that a task was answered, and the one that is due to it
abbrev pub broken_in : List Answer → ℕ
broken_in answers = count_by (λ (a : Answer). is_broken a.reply) answers

abbrev pub broken_of : Member → TaskNo → State → ℕ
broken_of m t s = broken_in (answers_of (actor.Task m t) s.courses) + (if is_due m t s.due then 1 else 0)

-- the member was up, and isn't any more
abbrev pub has_ended : Member → State → State → Bool
has_ended m s r = is_member_up m s && not (is_member_up m r)

-- the task has a request in progress, or a unit with an operation
abbrev pub is_at_work : Member → TaskNo → State → Bool
is_at_work m t s = is_some (work_of m t s.works) || has_unit (task_at m t s.parts.managers)

-- a task is told once more where its member ended while the task was at work, and else not
abbrev pub IsToldOnce : Member → TaskNo → State → State → Type 0
IsToldOnce m t s r = broken_of m t r ≡ broken_of m t s + (if has_ended m s r && is_at_work m t s then 1 else 0)
