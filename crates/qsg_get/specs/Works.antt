-- what contracts see of a get in progress
use Rattle.std.specs.Prelude.{ℕ, ◌≡◌, List}
use Rattle.qsg_num.specs.declared.seats.Member.{Member}
use Rattle.qsg_num.specs.declared.seats.TaskNo.{TaskNo}
use Rattle.qsg_lists.specs.declared.parts.Selector.{Selector}
use Rattle.qsg_get.specs.declared.phases.Phase.{Phase}
use Rattle.qsg_get.specs.declared.phases.Phase.TheVariants.{Check, Connect, Take}

-- whose get it is, what it asks for, and how far it has come
pub record Work : Type 0 where
  pub member : Member
  pub task : TaskNo
  pub queue : List ℕ
  pub select : Selector
  pub phase : Phase

-- a get that was checked is by a unit of the member
abbrev pub IsOwn : Member → Phase → Type 0
IsOwn m Check = Unit {0}
IsOwn m (Connect u terms) = u.member ≡ m
IsOwn m (Take u terms epoch) = u.member ≡ m
