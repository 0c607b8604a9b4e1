-- a member that ends, and one that starts
use Rattle.std.specs.Prelude.{true, false, List, replicate}
use Rattle.qsg_num.specs.declared.seats.Member.{Member}
use Rattle.qsg_num.specs.declared.ids.Incarnation.{Incarnation}
use Rattle.qsg_group.specs.Group.{idle}
use Rattle.qsg_manager.specs.declared.managers.Manager.{Manager}
use Rattle.qsg_manager.specs.Storage.{manager_in, with_manager}

-- a member that is down: its tasks hold nothing
abbrev pub with_down : Member → List Manager → List Manager
with_down m managers = with_manager m (record (manager_in m managers) { up = false; tasks = replicate 5 idle }) managers

-- a member that is up in an incarnation, with no unit's name drawn
abbrev pub with_started : Member → Incarnation → List Manager → List Manager
with_started m i managers = with_manager m (record (manager_in m managers) { up = true; incarnation = i; next = 1 }) managers
