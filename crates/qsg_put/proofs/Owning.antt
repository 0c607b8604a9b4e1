-- a name is of its member
use Rattle.std.proofs.Common.{◌≡◌, List, Option, Some, None, refl}
use Rattle.std.specs.Prelude.{IfSome}
use Rattle.qsg_num.specs.declared.seats.Member.{Member}
use Rattle.qsg_num.specs.declared.seats.TaskNo.{TaskNo}
use Rattle.qsg_num.specs.declared.ids.UnitName.{UnitName}
use Rattle.qsg_manager.specs.declared.managers.Manager.{Manager}
use Rattle.qsg_manager.specs.Storage.{task_at, next_name}
use Rattle.qsg_put.specs.Checking.{said_or}
use Rattle.qsg_put.specs.Steps.{unit_of}

said_own : (m : Member) (held : Option UnitName) (next : UnitName) → next.member ≡ m → IfSome held (λ u. u.member ≡ m) → (said_or held next).member ≡ m
said_own m (Some u) next is own = own
said_own m None next is own = is

pub unit_own : (m : Member) (t : TaskNo) (managers : List Manager) → IfSome (task_at m t managers).unit (λ u. u.member ≡ m) → (unit_of m t managers).member ≡ m
unit_own m t managers own = said_own m (task_at m t managers).unit (next_name m managers) refl own
