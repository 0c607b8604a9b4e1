-- the data sets of a plan, by its sizes and its structures side by side
use Rattle.std.proofs.Common.{◌≡◌, ◌≤◌, ◌-◌, ℕ, List, [], ◌∷◌, length, refl, ap, ◌∙◌, arith, Option, Some, None}
use Rattle.std.specs.Prelude.{zero, suc, slice_get}
use Rattle.std.specs.List.{filter_map, cons_option}
use Rattle.qsg_num.specs.declared.seats.StructNo.{StructNo}
use Rattle.qsg_num.specs.Seats.{structure_number}
use Rattle.qsg_objects.specs.declared.plans.Size.{Size}
use Rattle.qsg_objects.specs.declared.registry.Cfstruct.{Cfstruct}
use Rattle.qsg_objects.specs.Registry.{Registry}
use Rattle.qsg_devices.specs.declared.shapes.Shape.{Shape}
use Rattle.qsg_devices.specs.Shapes.{shape_of, shape_by, shape_at, shapes_of, every_structure}

abbrev pub paired : List Size → List Cfstruct → List Shape
paired [] structures = []
paired (size ∷ sizes) [] = []
paired (size ∷ sizes) (c ∷ structures) = shape_of size c ∷ paired sizes structures

without : (o : Option Size) → shape_by o None ≡ None
without None = refl
without (Some size) = refl

pair_at : (sizes : List Size) (structures : List Cfstruct) (i : ℕ) → shape_by (slice_get sizes i) (slice_get structures i) ≡ slice_get (paired sizes structures) i
pair_at [] structures i = refl
pair_at (size ∷ sizes) [] i = without (slice_get (size ∷ sizes) i)
pair_at (size ∷ sizes) (c ∷ structures) zero = refl
pair_at (size ∷ sizes) (c ∷ structures) (suc i) = pair_at sizes structures i

same_map : {X Y : Type 0} (f g : X → Option Y) (xs : List X) → ((x : X) → f x ≡ g x) → filter_map f xs ≡ filter_map g xs
same_map f g [] same = refl
same_map {X} {Y} f g (x ∷ xs) same = ap (λ (o : Option Y). cons_option o (filter_map f xs)) (same x) ∙ ap (cons_option (g x)) (same_map f g xs same)

-- at most four are all of them
all_four : (shapes : List Shape) → length shapes ≤ 4 → filter_map (λ (s : StructNo). slice_get shapes (structure_number s - 1)) every_structure ≡ shapes
all_four [] few = refl
all_four (a ∷ []) few = refl
all_four (a ∷ b ∷ []) few = refl
all_four (a ∷ b ∷ c ∷ []) few = refl
all_four (a ∷ b ∷ c ∷ d ∷ []) few = refl
all_four (a ∷ b ∷ c ∷ d ∷ e ∷ rest) few = absurd (omega (arith, few))

paired_long : (sizes : List Size) (structures : List Cfstruct) → length sizes ≡ length structures → length (paired sizes structures) ≡ length sizes
paired_long [] structures same = refl
paired_long (size ∷ sizes) [] same = absurd (omega (arith, same))
paired_long (size ∷ sizes) (c ∷ structures) same = ap suc (paired_long sizes structures (omega (arith, same)))

pub all_paired : (sizes : List Size) (objects : Registry) → length sizes ≡ length objects.structures → length sizes ≤ 4 → shapes_of sizes objects ≡ paired sizes objects.structures
all_paired sizes objects same few =
    same_map (shape_at sizes objects) (λ (s : StructNo). slice_get (paired sizes objects.structures) (structure_number s - 1)) every_structure (λ s. pair_at sizes objects.structures (structure_number s - 1))
    ∙ all_four (paired sizes objects.structures) (omega (arith, paired_long sizes objects.structures same, few))

pub as_many_shapes : (sizes : List Size) (objects : Registry) → length sizes ≡ length objects.structures → length sizes ≤ 4 → length (shapes_of sizes objects) ≡ length sizes
as_many_shapes sizes objects same few = ap length (all_paired sizes objects same few) ∙ paired_long sizes objects.structures same
