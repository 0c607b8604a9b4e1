-- the unit that a task has to end
use Rattle.std.specs.Prelude.{ℕ, nat_lt, if◌then◌else◌, length, Option, None, option_map}
use Rattle.qsg_num.specs.declared.ids.UnitName.{UnitName}
use Rattle.qsg_group.specs.declared.tasks.Task.{Task}

-- the unit of a task that has an operation, and how many it has
abbrev pub pending : Task → Option (UnitName × ℕ)
pending task = if nat_lt 0 (length task.ops) then option_map (λ u. (u, length task.ops)) task.unit else None
