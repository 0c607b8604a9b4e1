-- what a put makes of its task
use Rattle.std.specs.Prelude.{[], ◌∷◌, ◌++◌, Option, Some, ◌≡◌}
use Rattle.qsg_num.specs.declared.ids.EntryId.{EntryId}
use Rattle.qsg_msg.specs.declared.message.Message.{Message}
use Rattle.qsg_model.specs.declared.history.Op.TheVariants.{Put}
use Rattle.qsg_lists.specs.declared.parts.Connection.{Connection}
use Rattle.qsg_lists.specs.declared.parts.WriteWhy.{WriteWhy}
use Rattle.qsg_lists.specs.declared.parts.WriteWhy.TheVariants as why
use Rattle.qsg_group.specs.declared.tasks.Claim.{Claim}
use Rattle.qsg_group.specs.declared.tasks.Task.{Task}

abbrev pub with_id : EntryId → Message → Message
with_id id m = record m { id = id }

abbrev pub claim : Connection → Message → EntryId → Claim
claim connection m id = record { connection = connection; id = id; persistent = m.persistent }

-- the task with one operation more
abbrev pub with_put : Connection → Message → EntryId → Task → Task
with_put connection m id task = record task { ops = task.ops ++ (connection.structure, Put (with_id id m)) ∷ []; claims = task.claims ++ claim connection m id ∷ [] }

-- a reason is the refusal, or memory was wanting
abbrev pub IsRefused : WriteWhy → Option WriteWhy → Type 0
IsRefused why.NoMemory refusal = Unit {0}
IsRefused (why.Lost lost) refusal = refusal ≡ Some (why.Lost lost)
IsRefused (why.Full need free) refusal = refusal ≡ Some (why.Full need free)
IsRefused (why.QueueFull depth) refusal = refusal ≡ Some (why.QueueFull depth)
