-- how many steps are left to a STOP
use Rattle.std.specs.Prelude.{ℕ, ◌+◌, ◌-◌, ◌*◌, length}
use Rattle.qsg_num.specs.Seats.{structure_number}
use Rattle.qsg_parts.specs.Owned.{Owned}
use Rattle.qsg_stop.specs.declared.phases.Phase.{Phase}
use Rattle.qsg_stop.specs.declared.phases.Phase.TheVariants.{Connect, Save, Tell, Last}
use Rattle.qsg_stop.specs.declared.work.StopWork.{StopWork}
use Rattle.qsg_stop.specs.Calls.{number_of}

-- a structure takes one step to connect, four to save its map, and one to tell the repository
abbrev pub steps_of_structure : ℕ
steps_of_structure = 6

-- those of so many structures, and the last one
abbrev pub left_behind : ℕ → ℕ
left_behind structures = steps_of_structure * structures + 1

-- of so many structures
abbrev pub left_at : Phase → ℕ → ℕ
left_at (Connect s) count = left_behind (count + 1 - structure_number s)
left_at (Save connection call) count = left_behind (count - structure_number connection.structure) + 6 - number_of call
left_at (Tell connection) count = left_behind (count - structure_number connection.structure) + 1
left_at Last count = 1

abbrev pub left_of_stop : StopWork → Owned → ℕ
left_of_stop w p = left_at w.phase (length p.structures)
