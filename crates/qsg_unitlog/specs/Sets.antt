-- the structures of operations
use Rattle.std.specs.Prelude.{Bool, ◌==◌, List, [], ◌∷◌, filter}
use Rattle.std.specs.List.{list_any}
use Rattle.qsg_num.specs.declared.seats.StructNo.{StructNo}
use Rattle.qsg_num.specs.declared.seats.StructNo.TheVariants.{One, Two, Three, Four}
use Rattle.qsg_num.specs.Seats.{structure_number}
use Rattle.qsg_model.specs.declared.history.Op.{Op}

-- whether one of the operations is on a structure
abbrev pub uses : List (StructNo × Op) → StructNo → Bool
uses ops s = list_any (λ op. structure_number op.0 == structure_number s) ops

-- the structures of the operations, in rising order
abbrev pub structures_of : List (StructNo × Op) → List StructNo
structures_of ops = filter (uses ops) (One ∷ Two ∷ Three ∷ Four ∷ [])
