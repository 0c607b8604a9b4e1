-- the data sets of a new group
use Rattle.std.proofs.Common.{◌≡◌, ◌≤◌, List, [], ◌∷◌, length, ap, ◌∙◌}
use Rattle.std.specs.List.{AllByRecursion}
use Rattle.qsg_num.specs.declared.seats.Member.{Member}
use Rattle.qsg_num.specs.Seats.{member_number}
use Rattle.qsg_objects.specs.declared.plans.Plan.{Plan}
use Rattle.qsg_objects.specs.declared.plans.Size.{Size}
use Rattle.qsg_datasets.specs.Kept.{KeptSet, sets_of}
use Rattle.qsg_devices.specs.declared.shapes.Shape.{Shape}
use Rattle.qsg_devices.specs.Shapes.{shapes_of}
use Rattle.qsg_devices.specs.DataSets.{IsNewSet, AreNewSets, AreNewRows}
use Rattle.qsg_devices.proofs.Paired.{as_many_shapes}
use Rattle.qsg_devices.proofs.Stopped.{sets_long}
use Rattle.qsg_steady.specs.Founding as founding
use Rattle.qsg_sysplex.specs.Plans.{IsWorkable}

new_set : (shape : Shape) (set : KeptSet) → IsNewSet shape set → founding.IsNewSet set
new_set shape set new = record { map = new.map; hands = new.hands; zeros = new.zeros }

new_row : (shapes : List Shape) (row : List KeptSet) → AreNewSets shapes row → AllByRecursion founding.IsNewSet row
new_row [] [] new = tt
new_row [] (set ∷ row) new = absurd new
new_row (shape ∷ shapes) [] new = absurd new
new_row (shape ∷ shapes) (set ∷ row) new = (new_set shape set new.0, new_row shapes row new.1)

pub all_new : (shapes : List Shape) (rows : List (List KeptSet)) → AllByRecursion (AreNewSets shapes) rows → AllByRecursion (AllByRecursion founding.IsNewSet) rows
all_new shapes [] each = tt
all_new shapes (row ∷ rows) each = (new_row shapes row each.0, all_new shapes rows each.1)

-- a data set of each size is asked for
pub shapes_long : (plan : Plan) (sizes : List Size) (shapes now : List Shape) → IsWorkable plan → sizes ≡ plan.sizes → shapes ≡ shapes_of sizes plan.objects → now ≡ shapes → length now ≡ length plan.sizes
shapes_long plan sizes shapes now can given made same =
    ap length (same ∙ (made ∙ ap (λ (given : List Size). shapes_of given plan.objects) given)) ∙ as_many_shapes plan.sizes plan.objects can.sizes can.four

-- each member has one for each size
pub as_many : (plan : Plan) (rows : List (List KeptSet)) → IsWorkable plan → AreNewRows (length plan.members) (shapes_of plan.sizes plan.objects) rows → (m : Member) → member_number m ≤ length rows → length (sets_of m rows) ≡ length plan.sizes
as_many plan rows can new m within = sets_long (shapes_of plan.sizes plan.objects) rows new.each m within ∙ as_many_shapes plan.sizes plan.objects can.sizes can.four
