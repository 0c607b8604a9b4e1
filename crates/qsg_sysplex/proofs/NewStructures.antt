-- the structures of a new group
use Rattle.std.proofs.Common.{◌≡◌, ◌≤◌, ℕ, List, [], ◌∷◌, ◌++◌, length, Option, Some, None, refl, ap, sym, ◌∙◌, arith}
use Rattle.std.specs.Prelude.{◌+◌, ◌-◌, zero, suc, IfSome, slice_get, option_map}
use Rattle.std.specs.List.{AllByRecursion, filter_map, cons_option}
use Rattle.qsg_num.specs.declared.seats.StructNo.{StructNo}
use Rattle.qsg_num.specs.declared.seats.StructNo.TheVariants as structure
use Rattle.qsg_num.specs.Seats.{structure_number}
use Rattle.qsg_lists.specs.Structures.{ListStructure}
use Rattle.qsg_objects.specs.declared.plans.Size.{Size}
use Rattle.qsg_steady.specs.Founding.{IsNewStructure}
use Rattle.qsg_sysplex.specs.Starting.{new_structure, structure_sized, new_structures}

given_too : {Y : Type 0} (P : Y → Type 0) (o : Option Y) (ys : List Y) → IfSome o P → AllByRecursion P ys → AllByRecursion P (cons_option o ys)
given_too P None ys here rest = rest
given_too P (Some y) ys here rest = (here, rest)

all_given : {X Y : Type 0} (P : Y → Type 0) (h : X → Option Y) (xs : List X) → ((x : X) → IfSome (h x) P) → AllByRecursion P (filter_map h xs)
all_given P h [] each = tt
all_given P h (x ∷ xs) each = given_too P (h x) (filter_map h xs) (each x) (all_given P h xs each)

sized_new : (s : StructNo) (size : Option Size) → IfSome (option_map (new_structure s) size) IsNewStructure
sized_new s None = tt
sized_new s (Some size) = record { state = refl; epoch = refl; last = refl; entries = refl }

pub all_new : (sizes : List Size) → AllByRecursion IsNewStructure (new_structures sizes)
all_new sizes = all_given IsNewStructure (structure_sized sizes) (structure.One ∷ structure.Two ∷ structure.Three ∷ structure.Four ∷ []) (λ s. sized_new s (slice_get sizes (structure_number s - 1)))

pub as_many : (sizes : List Size) → length sizes ≤ 4 → length (new_structures sizes) ≡ length sizes
as_many [] few = refl
as_many (a ∷ []) few = refl
as_many (a ∷ b ∷ []) few = refl
as_many (a ∷ b ∷ c ∷ []) few = refl
as_many (a ∷ b ∷ c ∷ d ∷ []) few = refl
as_many (a ∷ b ∷ c ∷ d ∷ e ∷ rest) few = absurd (omega (arith, few))

-- the structures of four sizes, each pushed behind those before
first_of : {X : Type 0} (o : Option X) (xs : List X) → cons_option o xs ≡ cons_option o [] ++ xs
first_of None xs = refl
first_of (Some x) xs = refl

three : {X : Type 0} (b c d : Option X) → (cons_option b [] ++ cons_option c []) ++ cons_option d [] ≡ cons_option b (cons_option c (cons_option d []))
three None c d = sym (first_of c (cons_option d []))
three (Some x) c d = ap (λ xs. x ∷ xs) (sym (first_of c (cons_option d [])))

four : {X : Type 0} (a b c d : Option X) → ((cons_option a [] ++ cons_option b []) ++ cons_option c []) ++ cons_option d [] ≡ cons_option a (cons_option b (cons_option c (cons_option d [])))
four None b c d = three b c d
four (Some y) b c d = ap (λ xs. y ∷ xs) (three b c d)

pub pushed : (sizes : List Size) (none one two most all : List ListStructure) → none ≡ [] → one ≡ none ++ cons_option (structure_sized sizes structure.One) [] → two ≡ one ++ cons_option (structure_sized sizes structure.Two) []
    → most ≡ two ++ cons_option (structure_sized sizes structure.Three) [] → all ≡ most ++ cons_option (structure_sized sizes structure.Four) [] → all ≡ new_structures sizes
pushed sizes none one two most all is0 is1 is2 is3 is4 =
    let first : one ≡ cons_option (structure_sized sizes structure.One) [] = is1 ∙ ap (λ xs. xs ++ cons_option (structure_sized sizes structure.One) []) is0 in
    let second : two ≡ cons_option (structure_sized sizes structure.One) [] ++ cons_option (structure_sized sizes structure.Two) [] = is2 ∙ ap (λ xs. xs ++ cons_option (structure_sized sizes structure.Two) []) first in
    let third : most ≡ (cons_option (structure_sized sizes structure.One) [] ++ cons_option (structure_sized sizes structure.Two) []) ++ cons_option (structure_sized sizes structure.Three) [] = is3 ∙ ap (λ xs. xs ++ cons_option (structure_sized sizes structure.Three) []) second in
    is4 ∙ (ap (λ xs. xs ++ cons_option (structure_sized sizes structure.Four) []) third ∙ four (structure_sized sizes structure.One) (structure_sized sizes structure.Two) (structure_sized sizes structure.Three) (structure_sized sizes structure.Four))

none_at : {X : Type 0} (xs : List X) (i : ℕ) → length xs ≤ i → slice_get xs i ≡ None
none_at [] i beyond = refl
none_at (x ∷ xs) zero beyond = absurd (omega (arith, beyond))
none_at (x ∷ xs) (suc i) beyond = none_at xs i (omega (arith, beyond))

nil_right : {X : Type 0} (xs : List X) → xs ++ [] ≡ xs
nil_right [] = refl
nil_right (x ∷ xs) = ap (λ ys. x ∷ ys) (nil_right xs)

-- a number without a size has no structure
pub unsized : (items : List ListStructure) (sizes : List Size) (s : StructNo) (i : ℕ) → i + 1 ≡ structure_number s → length sizes ≤ i → items ≡ items ++ cons_option (structure_sized sizes s) []
unsized items sizes s i is beyond =
    let none : slice_get sizes (structure_number s - 1) ≡ None = none_at sizes (structure_number s - 1) (omega (arith, is, beyond)) in
    sym (ap (λ (o : Option Size). items ++ cons_option (option_map (new_structure s) o) []) none ∙ nil_right items)
