-- a task made anew from its parts
use Rattle.std.proofs.Common.{◌≡◌, List, [], ◌∷◌, ◌++◌, Option, Result, Ok, Err}
use Rattle.std.specs.Prelude.{OnOk}
use Rattle.qsg_num.specs.declared.ids.EntryId.{EntryId}
use Rattle.qsg_num.specs.declared.ids.UnitName.{UnitName}
use Rattle.qsg_num.specs.declared.seats.StructNo.{StructNo}
use Rattle.qsg_msg.specs.declared.message.Message.{Message}
use Rattle.qsg_model.specs.declared.history.Op.{Op}
use Rattle.qsg_model.specs.declared.history.Op.TheVariants.{Put}
use Rattle.qsg_lists.specs.declared.parts.Connection.{Connection}
use Rattle.qsg_group.specs.declared.tasks.Claim.{Claim}
use Rattle.qsg_group.specs.declared.tasks.Stage.{Stage}
use Rattle.qsg_group.specs.declared.tasks.Task.{Task}
use Rattle.qsg_manager.specs.Putting.{with_put, with_id, claim}

pub put_made : {T E : Type 0} (r : Result T E) (task : Task) (connection : Connection) (m : Message) (id : EntryId) (u : Option UnitName) (ops : List (StructNo × Op)) (claims : List Claim) (s : Stage)
    → u ≡ task.unit → s ≡ task.stage → OnOk r (ops ≡ task.ops ++ (connection.structure, Put (with_id id m)) ∷ []) → OnOk r (claims ≡ task.claims ++ claim connection m id ∷ [])
    → OnOk r (record { unit = u; ops = ops; claims = claims; stage = s } ≡ with_put connection m id task)
put_made (Ok x) task connection m id u ops claims s unit stage o c = λ i. record { unit = unit i; ops = o i; claims = c i; stage = stage i }
put_made (Err e) task connection m id u ops claims s unit stage o c = tt
