-- the data sets of a plan: of each structure how many blocks, and of how many bytes
use Rattle.std.specs.Prelude.{◌-◌, ◌*◌, ◌≤◌, List, [], ◌∷◌, slice_get, Option, Some, None}
use Rattle.std.specs.List.{filter_map}
use Rattle.qsg_num.specs.declared.seats.StructNo.{StructNo}
use Rattle.qsg_num.specs.declared.seats.StructNo.TheVariants as structure
use Rattle.qsg_num.specs.Seats.{structure_number}
use Rattle.qsg_objects.specs.declared.plans.Size.{Size}
use Rattle.qsg_objects.specs.declared.registry.Cfstruct.{Cfstruct}
use Rattle.qsg_objects.specs.Registry.{Registry, structure_numbered}
use Rattle.qsg_devices.specs.declared.shapes.Shape.{Shape}

abbrev pub shape_of : Size → Cfstruct → Shape
shape_of size c = record { block_size = c.definition.dsblock; blocks = size.blocks }

abbrev pub shape_by : Option Size → Option Cfstruct → Option Shape
shape_by (Some size) (Some c) = Some (shape_of size c)
shape_by (Some size) None = None
shape_by None c = None

abbrev pub shape_at : List Size → Registry → StructNo → Option Shape
shape_at sizes objects s = shape_by (slice_get sizes (structure_number s - 1)) (structure_numbered s objects)

abbrev pub every_structure : List StructNo
every_structure = structure.One ∷ structure.Two ∷ structure.Three ∷ structure.Four ∷ []

-- of each structure that has a size and a definition, in order of their numbers
abbrev pub shapes_of : List Size → Registry → List Shape
shapes_of sizes objects = filter_map (shape_at sizes objects) every_structure

-- a data set has 1 to 8,192 blocks of some bytes, at most 67,108,864 bytes in all
pub record IsSetSized (shape : Shape) : Type 0 where
  pub some_bytes : 1 ≤ shape.block_size
  pub some_blocks : 1 ≤ shape.blocks
  pub most_blocks : shape.blocks ≤ 8192
  pub most_bytes : shape.blocks * shape.block_size ≤ 67108864
