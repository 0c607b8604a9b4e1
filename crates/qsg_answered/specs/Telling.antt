-- what an answer tells: the operation that it made, and what it says of a unit
use Rattle.std.specs.Prelude.{ℕ, ◌==◌, count_by, Bool, true, false, ◌&&◌, ◌||◌, if◌then◌else◌, List, [], ◌++◌, Option, Some, None, is_some, option_map, fold}
use Rattle.std.specs.List.{zip, cons_option}
use Rattle.qsg_num.specs.declared.seats.Member.{Member}
use Rattle.qsg_num.specs.declared.seats.StructNo.{StructNo}
use Rattle.qsg_num.specs.declared.seats.TaskNo.{TaskNo}
use Rattle.qsg_num.specs.declared.ids.Actor.{Actor}
use Rattle.qsg_num.specs.declared.ids.Actor.TheVariants as actor
use Rattle.qsg_num.specs.declared.ids.EntryId.{EntryId}
use Rattle.qsg_num.specs.declared.ids.UnitName.{UnitName}
use Rattle.qsg_num.specs.Ids.{same_unit}
use Rattle.qsg_num.specs.Seats.{member_number}
use Rattle.qsg_model.specs.declared.history.Op.{Op}
use Rattle.qsg_model.specs.declared.history.Op.TheVariants.{Put, Got}
use Rattle.qsg_objects.specs.declared.directives.Directive.{Directive}
use Rattle.qsg_objects.specs.declared.registry.Queue.{Queue}
use Rattle.qsg_objects.specs.Registry.{Registry, queue_named}
use Rattle.qsg_requests.specs.declared.replies.Reason.TheVariants.{ConnectionBroken}
use Rattle.qsg_requests.specs.declared.replies.Reply.{Reply}
use Rattle.qsg_requests.specs.declared.replies.Reply.TheVariants as reply
use Rattle.qsg_requests.specs.declared.transcript.Answer.{Answer}
use Rattle.qsg_requests.specs.declared.words.PutWords.{PutWords}
use Rattle.qsg_requests.specs.declared.words.Request.{Request}
use Rattle.qsg_requests.specs.declared.words.Request.TheVariants as request
use Rattle.qsg_agenda.specs.Courses.{Course, course_of}
use Rattle.qsg_directives.specs.Asking.{request_of}
use Rattle.qsg_put.specs.Checking.{terms_of}
use Rattle.qsg_put.specs.Messages.{message_of}
use Rattle.qsg_step.specs.declared.asked.Asked.{Asked}
use Rattle.qsg_step.specs.declared.asked.Asked.TheVariants as asks
use Rattle.qsg_step.specs.Asking.{asked}

-- ---- operations

-- the request that a directive of an actor asks for; the operator has no unit, and so none
abbrev pub requested : Actor → Directive → Option Request
requested (actor.Task m t) d = request_of d
requested actor.Operator d = None

-- a put to a queue makes the message that is asked for, under the id that was answered, with the queue's defaults filled in
abbrev pub put_of : PutWords → EntryId → Queue → StructNo × Op
put_of words id queue = (queue.structure, Put (message_of words (terms_of words queue) id))

-- the operation that an answer tells of
abbrev pub made : Registry → Option Request → Reply → Option (StructNo × Op)
made objects (Some (request.Put words)) (reply.PutOk id placed) = option_map (put_of words id) (queue_named words.queue objects)
made objects (Some (request.Get queue select)) (reply.Got m) = Some (m.structure, Got m.id)
made objects other r = None

abbrev pub ends_unit : Option Request → Bool
ends_unit (Some request.Commit) = true
ends_unit (Some request.Backout) = true
ends_unit other = false

-- 2009: the member ended while the request was in progress, or while the task's unit had an operation
abbrev pub is_broken : Reply → Bool
is_broken (reply.Refused ConnectionBroken) = true
is_broken r = false

-- an answer to a COMMIT or BACKOUT ends a unit, and so does a 2009 to any request
abbrev pub ends_pending : Option Request → Reply → Bool
ends_pending asked r = ends_unit asked || (is_some asked && is_broken r)

-- the operations that are pending after an answer: one more where it tells of one, and none after the end of a unit
abbrev pub pending_after : Registry → List (StructNo × Op) → Option Request → Reply → List (StructNo × Op)
pending_after objects ops asked r = if ends_pending asked r then [] else ops ++ cons_option (made objects asked r) []

abbrev pub with_answered : Registry → Actor → List (StructNo × Op) → Directive × Answer → List (StructNo × Op)
with_answered objects who ops (d, a) = pending_after objects ops (requested who d) a.reply

-- each directive that was answered, with its answer
abbrev pub told : Course → List (Directive × Answer)
told c = zip c.directives c.answers

-- the operations that a course made since the end of its last unit, or its last 2009
abbrev pub pending : Registry → Course → List (StructNo × Op)
pending objects c = fold (with_answered objects c.actor) [] (told c)

abbrev pub pending_in : Registry → Option Course → List (StructNo × Op)
pending_in objects None = []
pending_in objects (Some c) = pending objects c

-- those of a task; one without a course makes none
abbrev pub pending_of : Registry → Member → TaskNo → List Course → List (StructNo × Op)
pending_of objects m t courses = pending_in objects (course_of (actor.Task m t) courses)

-- ---- units

-- the answer to a COMMIT names the unit
abbrev pub commits : UnitName → Option Request → Reply → Bool
commits u (Some request.Commit) (reply.Unit (Some v) count) = same_unit u v
commits u other r = false

abbrev pub commits_told : Actor → UnitName → Directive × Answer → Bool
commits_told who u (d, a) = commits u (requested who d) a.reply

-- ---- members

-- the answer to a START of the member tells that it came up
abbrev pub starts : Member → Asked → Reply → Bool
starts m (asks.Start n) (reply.Started incarnation) = member_number n == member_number m
starts m other r = false

abbrev pub starts_told : Actor → Member → Directive × Answer → Bool
starts_told who m (d, a) = starts m (asked who d) a.reply

-- how often a member came up
abbrev pub starts_in : Member → Course → ℕ
starts_in m c = count_by (starts_told c.actor m) (told c)
