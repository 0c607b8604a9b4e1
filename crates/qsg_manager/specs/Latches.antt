-- which task of a member writes its unit's run, and which pages the member's units still need
use Rattle.std.specs.Prelude.{List, [], ◌∷◌, Option, Some, None, find, nat_lt, if◌then◌else◌}
use Rattle.qsg_num.specs.declared.seats.TaskNo.{TaskNo}
use Rattle.qsg_num.specs.declared.seats.TaskNo.TheVariants as number
use Rattle.qsg_num.specs.declared.ids.PageNo.{PageNo}
use Rattle.qsg_group.specs.declared.tasks.Stage.{Stage}
use Rattle.qsg_group.specs.declared.tasks.Stage.TheVariants.{Open, Hardening, Committed, BackedOut}
use Rattle.qsg_group.specs.declared.tasks.Task.{Task}
use Rattle.qsg_group.specs.Observers.{is_hardening}
use Rattle.qsg_manager.specs.Storage.{task_in}

abbrev pub task_numbers : List TaskNo
task_numbers = number.System ∷ number.One ∷ number.Two ∷ number.Three ∷ number.Four ∷ []

-- the first task whose unit's run is being written
abbrev pub latch_of : List Task → Option TaskNo
latch_of tasks = find (λ t. is_hardening (task_in t tasks).stage) task_numbers

-- the first page that a unit still needs: that of its run, until the unit ends
abbrev pub needed_by : Stage → Option PageNo
needed_by Open = None
needed_by (Hardening first) = Some first
needed_by (Committed first settled) = Some first
needed_by (BackedOut settled) = None

abbrev pub earlier : Option PageNo → Option PageNo → Option PageNo
earlier None other = other
earlier (Some page) None = Some page
earlier (Some page) (Some other) = if nat_lt other.number page.number then Some other else Some page

-- the first page that any of the units needs
abbrev pub first_needed : List Task → Option PageNo
first_needed [] = None
first_needed (task ∷ tasks) = earlier (needed_by task.stage) (first_needed tasks)
