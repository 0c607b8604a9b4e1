-- The machine's group, seen in structures and managers.
use Rattle.std.specs.Prelude.{ℕ, Bool, List}
use Rattle.qsg_num.specs.declared.seats.Member.{Member}
use Rattle.qsg_num.specs.declared.seats.StructNo.{StructNo}
use Rattle.qsg_model.specs.declared.history.Item.{Item}
use Rattle.qsg_lists.specs.Structures.{ListStructure}
use Rattle.qsg_group.specs.Group.{Log, Seat, Group}
use Rattle.qsg_manager.specs.declared.managers.Manager.{Manager}
use Rattle.qsg_manager.specs.Views.{Outside, shelf_of}
use Rattle.qsg_manager.specs.Facilities.{structure_in}
use Rattle.qsg_manager.specs.Storage.{manager_in, task_at}

abbrev pub seat_of : Manager → Seat
seat_of manager = record { up = manager.up; incarnation = manager.incarnation.number; next = manager.next }

-- what a group has besides its structures and its members' storage
pub record Rest : Type 0 where
  pub outside : Outside
  pub logs : Member → Log
  pub failed : Member → ℕ → Bool
  pub tops : StructNo → ℕ
  pub history : List Item

abbrev pub group_of : Rest → List ListStructure → List Manager → Group
group_of rest structures managers = record {
  shelves = λ s. shelf_of rest.outside s (structure_in s structures);
  logs = rest.logs;
  seats = λ m. seat_of (manager_in m managers);
  failed = rest.failed;
  tasks = λ m t. task_at m t managers;
  tops = rest.tops;
  history = rest.history;
}
