-- why a get is refused before it looks at a structure
use Rattle.std.specs.Prelude.{ℕ, not, nat_le, if◌then◌else◌, List, Option, Some, None, Result, Ok, Err}
use Rattle.qsg_objects.specs.declared.registry.Queue.{Queue}
use Rattle.qsg_objects.specs.Registry.{Registry, queue_named}
use Rattle.qsg_requests.specs.declared.replies.Reason.{Reason}
use Rattle.qsg_requests.specs.declared.replies.Reason.TheVariants.{UnknownObject, GetInhibited, SyncpointLimit}
use Rattle.qsg_get.specs.declared.checking.Terms.{Terms}

-- what a get takes from its queue
abbrev pub terms_of : Queue → Terms
terms_of queue = record { structure = queue.structure; order = queue.definition.msgdlvsq }

-- how a queue answers a unit of so many operations: the first refusal that holds, or else the terms
abbrev pub queue_answer : ℕ → Queue → Result Terms Reason
queue_answer operations queue =
    if not queue.definition.get then Err GetInhibited
    else if nat_le 1000 operations then Err SyncpointLimit
    else Ok (terms_of queue)

abbrev pub answer_at : ℕ → Option Queue → Result Terms Reason
answer_at operations None = Err UnknownObject
answer_at operations (Some queue) = queue_answer operations queue

-- how the check of a get ends, but for the pages of its log
abbrev pub check_answer : Registry → List ℕ → ℕ → Result Terms Reason
check_answer objects queue operations = answer_at operations (queue_named queue objects)
