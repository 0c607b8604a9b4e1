-- the structures of a group, by their numbers
use Rattle.std.specs.Prelude.{◌-◌, List, [], slice_index_or, slice_set}
use Rattle.qsg_num.specs.declared.seats.StructNo.{StructNo}
use Rattle.qsg_num.specs.Seats.{structure_number}
use Rattle.qsg_lists.specs.declared.parts.State.TheVariants.{Active}
use Rattle.qsg_lists.specs.Structures.{ListStructure}

-- what stands at a number that no structure has: none, without room
abbrev pub no_structure : ListStructure
no_structure = record { number = Rattle.qsg_num.specs.declared.seats.StructNo.TheVariants.One; state = Active; epoch = 0; last = 0; capacity = 0; entries = [] }

abbrev pub structure_in : StructNo → List ListStructure → ListStructure
structure_in s structures = slice_index_or structures (structure_number s - 1) no_structure

abbrev pub with_structure : StructNo → ListStructure → List ListStructure → List ListStructure
with_structure s structure structures = slice_set structures (structure_number s - 1) structure
