-- the data sets of a script's structures have their sizes
use Rattle.std.proofs.Common.{◌≡◌, ◌≤◌, ◌<◌, ◌+◌, ◌-◌, ◌*◌, ◌/◌, ◌==◌, ℕ, Bool, true, false, cond, List, [], ◌∷◌, ◌++◌, length, Option, Some, None, refl, ap, sym, subst, ◌∙◌, arith}
use Rattle.std.specs.Prelude.{find, map, nat_le, slice_get}
use Rattle.std.specs.Option.{ForSome, option_or}
use Rattle.std.specs.List.{AllByRecursion}
use Rattle.std.proofs.Math.Nat.{div-le_self, div-mul-le_self, mul-le-mul_left, mul-le-mul_right}
use Rattle.std.proofs.lemmas.Bool.Decides.{nat_tests}
use Rattle.std.proofs.lemmas.List.Folds.{find-append}
use Rattle.std.proofs.lemmas.Nat.{le-div}
use Rattle.mqsc_values.specs.declared.numbers.Number.TheVariants.{Value, TooLarge, Bad}
use Rattle.mqsc_values.specs.Numbers.{is_number, value_of}
use Rattle.mqsc_define.specs.Definitions.{number_or, count_or}
use Rattle.qsg_num.specs.declared.seats.StructNo.{StructNo}
use Rattle.qsg_num.specs.Seats.{structure_number}
use Rattle.qsg_objects.specs.declared.plans.Size.{Size}
use Rattle.qsg_objects.specs.declared.registry.Cfstruct.{Cfstruct}
use Rattle.qsg_objects.specs.Registry.{Registry, AreNumbered, structure_numbered}
use Rattle.qsg_draft.specs.Contents.{Contents, HasBlocks}
use Rattle.qsg_draft.specs.Lookups.{is_facility}
use Rattle.qsg_draft.specs.Sizes.{blocks_of, blocks_in, default_size, size_or, size_of}
use Rattle.qsg_grammar.specs.declared.keywords.Keyword.TheVariants as keyword
use Rattle.qsg_grammar.specs.Values.{is_positive, is_right}
use Rattle.qsg_devices.specs.Shapes.{shape_of, IsSetSized}
use Rattle.qsg_devices.proofs.Paired.{paired}
use Rattle.qsg_plans.proofs.Numbers.{count-most}

-- the blocks of a structure are of a size that there is, and so are its data sets, by these facilities
pub record IsSetRight (facilities : List (StructNo × Size)) (s : Cfstruct) : Type 0 where
  pub block : HasBlocks s
  pub sized : IsSetSized (shape_of (size_of facilities s) s)

-- a facility is of one of so many structures
abbrev pub IsNamed : ℕ → StructNo × Size → Type 0
IsNamed structures f = structure_number f.0 ≤ structures

-- Sizes.

sized : (size : Size) (s : Cfstruct) → HasBlocks s → 1 ≤ size.blocks → size.blocks ≤ 67108864 / s.definition.dsblock → IsSetSized (shape_of size s)
sized size s block some most =
    let whole : size.blocks * s.definition.dsblock ≤ 67108864 / s.definition.dsblock * s.definition.dsblock = mul-le-mul_right s.definition.dsblock most in
    let within : 67108864 / s.definition.dsblock * s.definition.dsblock ≤ 67108864 = div-mul-le_self 67108864 s.definition.dsblock in
    let least : size.blocks * 8192 ≤ size.blocks * s.definition.dsblock = mul-le-mul_left size.blocks block.smallest in
    record {
      some_bytes = omega (arith, block.smallest);
      some_blocks = some;
      most_blocks = omega (arith, least, whole, within);
      most_bytes = omega (arith, whole, within);
    }

default-some : (s : Cfstruct) → HasBlocks s → 1 ≤ 16777216 / s.definition.dsblock
default-some s block = le-div 1 16777216 s.definition.dsblock (omega (arith, block.smallest)) (omega (arith, block.largest))

default-most : (s : Cfstruct) → HasBlocks s → 16777216 / s.definition.dsblock ≤ 67108864 / s.definition.dsblock
default-most s block =
    let within : 16777216 / s.definition.dsblock * s.definition.dsblock ≤ 16777216 = div-mul-le_self 16777216 s.definition.dsblock in
    le-div (16777216 / s.definition.dsblock) 67108864 s.definition.dsblock (omega (arith, block.smallest)) (omega (arith, within))

pub default-sized : (s : Cfstruct) → HasBlocks s → IsSetSized (shape_of (default_size s) s)
default-sized s block = sized (default_size s) s block (default-some s block) (default-most s block)

-- What stands behind BLOCKS.

least-of : (digits fits all : Bool) (default most v : ℕ) → 1 ≤ default → most ≤ 67108864 → nat_le v most ≡ fits → nat_le v 67108864 ≡ all
    → is_positive (cond digits (cond all (Value v) TooLarge) Bad) ≡ true → 1 ≤ number_or default (cond digits (cond fits (Value v) TooLarge) Bad)
least-of false fits all default most v some low is is2 right = some
least-of true false all default most v some low is is2 right = some
least-of true true true default most v some low is is2 right = grind (arith, nat_tests, right)
least-of true true false default most v some low is is2 right = absurd (grind (arith, nat_tests, is, is2, low))

count-some : (default most : ℕ) (text : Option (List ℕ)) → 1 ≤ default → most ≤ 67108864 → ForSome text (λ t. is_right keyword.Blocks t ≡ true) → 1 ≤ count_or default most text
count-some default most None some low right = some
count-some default most (Some text) some low right = least-of (is_number text) (nat_le (value_of text) most) (nat_le (value_of text) 67108864) default most (value_of text) some low refl refl (right text refl)

-- the size that a FACILITY gives a structure
pub facility-sized : (elements : ℕ) (text : Option (List ℕ)) (s : Cfstruct) → HasBlocks s → ForSome text (λ t. is_right keyword.Blocks t ≡ true)
    → IsSetSized (shape_of (record { elements = elements; blocks = count_or (blocks_of (Some s) 16777216) (blocks_of (Some s) 67108864) text }) s)
facility-sized elements text s block right =
    let low : 67108864 / s.definition.dsblock ≤ 67108864 = div-le_self 67108864 s.definition.dsblock in
    sized (record { elements = elements; blocks = count_or (blocks_of (Some s) 16777216) (blocks_of (Some s) 67108864) text }) s block
    (count-some (blocks_of (Some s) 16777216) (blocks_of (Some s) 67108864) text (default-some s block) low right)
    (count-most (blocks_of (Some s) 16777216) (blocks_of (Some s) 67108864) text (default-most s block))

-- Structures stand at their numbers.

seam : (front : List Cfstruct) (x : Cfstruct) (rest : List Cfstruct) → slice_get (front ++ x ∷ rest) (length front) ≡ Some x
seam [] x rest = refl
seam (y ∷ ys) x rest = seam ys x rest

longer : (front : List Cfstruct) (x : Cfstruct) → length (front ++ x ∷ []) ≡ length front + 1
longer [] x = refl
longer (y ∷ ys) x = let h = longer ys x in omega (arith, h)

moved : (front : List Cfstruct) (x : Cfstruct) (rest : List Cfstruct) → (front ++ x ∷ []) ++ rest ≡ front ++ (x ∷ rest)
moved [] x rest = refl
moved (y ∷ ys) x rest = ap (λ zs. y ∷ zs) (moved ys x rest)

each-stands : (front ss : List Cfstruct) → AreNumbered (length front + 1) ss → AllByRecursion (λ (x : Cfstruct). slice_get (front ++ ss) (structure_number x.number - 1) ≡ Some x) ss
each-stands front [] numbered = tt
each-stands front (x ∷ ss) numbered =
    let at : structure_number x.number - 1 ≡ length front = omega (arith, numbered.0) in
    let later : AreNumbered (length (front ++ x ∷ []) + 1) ss = subst (λ (n : ℕ). AreNumbered n ss) (ap (λ (n : ℕ). n + 1) (sym (longer front x))) numbered.1 in
    let rest : AllByRecursion (λ (y : Cfstruct). slice_get (front ++ (x ∷ ss)) (structure_number y.number - 1) ≡ Some y) ss
    = subst (λ (all : List Cfstruct). AllByRecursion (λ (y : Cfstruct). slice_get all (structure_number y.number - 1) ≡ Some y) ss) (moved front x ss) (each-stands (front ++ x ∷ []) ss later) in
    (ap (slice_get (front ++ (x ∷ ss))) at ∙ seam front x ss, rest)

pub all-stand : (objects : Registry) → AreNumbered 1 objects.structures → AllByRecursion (λ (x : Cfstruct). structure_numbered x.number objects ≡ Some x) objects.structures
all-stand objects numbered = each-stands [] objects.structures (subst (λ (n : ℕ). AreNumbered n objects.structures) (omega arith) numbered)

-- FACILITY.

one-found : (number : StructNo) (f : StructNo × Size) (b : Bool) → (structure_number f.0 == structure_number number) ≡ b → find (is_facility number) (f ∷ []) ≡ cond b (Some f) None
one-found number f b is = rw is refl

-- a structure that has no size yet may be given one
pub given-size : (facilities : List (StructNo × Size)) (f : StructNo × Size) (s : Cfstruct) → IsSetRight facilities s
    → (structure_number f.0 ≡ structure_number s.number → IsSetSized (shape_of f.1 s)) → IsSetRight (facilities ++ f ∷ []) s
given-size facilities f s right gives = record {
  block = right.block;
  sized = subst (λ (o : Option (StructNo × Size)). IsSetSized (shape_of (size_or o (default_size s)) s)) (sym (find-append (is_facility s.number) facilities (f ∷ [])))
      (by (find (is_facility s.number) facilities) right.sized);
}
  where
    last : (b : Bool) → (structure_number f.0 == structure_number s.number) ≡ b → IsSetSized (shape_of (default_size s) s) → IsSetSized (shape_of (size_or (find (is_facility s.number) (f ∷ [])) (default_size s)) s)
    last true is default = rw (one-found s.number f true is) (gives (grind (arith, nat_tests, is)))
    last false is default = rw (one-found s.number f false is) default

    by : (o : Option (StructNo × Size)) → IsSetSized (shape_of (size_or o (default_size s)) s) → IsSetSized (shape_of (size_or (option_or o (find (is_facility s.number) (f ∷ []))) (default_size s)) s)
    by None default = last (structure_number f.0 == structure_number s.number) refl default
    by (Some g) given = given

all-given : (facilities : List (StructNo × Size)) (f : StructNo × Size) (ss : List Cfstruct) → AllByRecursion (IsSetRight facilities) ss
    → AllByRecursion (λ (s : Cfstruct). structure_number f.0 ≡ structure_number s.number → IsSetSized (shape_of f.1 s)) ss → AllByRecursion (IsSetRight (facilities ++ f ∷ [])) ss
all-given facilities f [] right gives = tt
all-given facilities f (s ∷ ss) right gives = (given-size facilities f s right.0 gives.0, all-given facilities f ss right.1 gives.1)

-- the one that a FACILITY names has that size, as its block says
all-sized : (elements : ℕ) (text : Option (List ℕ)) (number : StructNo) (objects : Registry) (facilities : List (StructNo × Size)) (ss : List Cfstruct)
    → ForSome text (λ t. is_right keyword.Blocks t ≡ true) → AllByRecursion (IsSetRight facilities) ss → AllByRecursion (λ (x : Cfstruct). structure_numbered x.number objects ≡ Some x) ss
    → AllByRecursion (λ (s : Cfstruct). structure_number number ≡ structure_number s.number
    → IsSetSized (shape_of (record { elements = elements; blocks = count_or (blocks_of (structure_numbered number objects) 16777216) (blocks_of (structure_numbered number objects) 67108864) text }) s)) ss
all-sized elements text number objects facilities [] right kept stand = tt
all-sized elements text number objects facilities (s ∷ ss) right kept stand = (here, all-sized elements text number objects facilities ss right kept.1 stand.1)
  where
    here : structure_number number ≡ structure_number s.number
        → IsSetSized (shape_of (record { elements = elements; blocks = count_or (blocks_of (structure_numbered number objects) 16777216) (blocks_of (structure_numbered number objects) 67108864) text }) s)
    here same =
        let found : structure_numbered number objects ≡ Some s = ap (λ (n : ℕ). slice_get objects.structures (n - 1)) same ∙ stand.0 in
        subst (λ (o : Option Cfstruct). IsSetSized (shape_of (record { elements = elements; blocks = count_or (blocks_of o 16777216) (blocks_of o 67108864) text }) s)) (sym found)
        (facility-sized elements text s kept.0.block right)

pub facility-rights : (c : Contents) (number : StructNo) (elements : ℕ) (text : Option (List ℕ)) → AreNumbered 1 c.objects.structures → ForSome text (λ t. is_right keyword.Blocks t ≡ true)
    → AllByRecursion (IsSetRight c.facilities) c.objects.structures
    → AllByRecursion (IsSetRight (c.facilities ++ (number, record { elements = elements; blocks = count_or (blocks_in number 16777216 c) (blocks_in number 67108864 c) text }) ∷ [])) c.objects.structures
facility-rights c number elements text numbered right kept =
    all-given c.facilities (number, record { elements = elements; blocks = count_or (blocks_in number 16777216 c) (blocks_in number 67108864 c) text }) c.objects.structures kept
    (all-sized elements text number c.objects c.facilities c.objects.structures right kept (all-stand c.objects numbered))

-- DEFINE.

unfound : (facilities : List (StructNo × Size)) (number : StructNo) (n : ℕ) → AllByRecursion (IsNamed n) facilities → n < structure_number number → find (is_facility number) facilities ≡ None
unfound [] number n named above = refl
unfound (f ∷ fs) number n named above = let apart : (structure_number f.0 == structure_number number) ≡ false = grind (arith, nat_tests, named.0, above) in rw apart (unfound fs number n named.1 above)

-- a structure that is new has the default size
pub new-right : (facilities : List (StructNo × Size)) (s : Cfstruct) (n : ℕ) → AllByRecursion (IsNamed n) facilities → n < structure_number s.number → HasBlocks s → IsSetRight facilities s
new-right facilities s n named above block = record {
  block = block;
  sized = subst (λ (o : Option (StructNo × Size)). IsSetSized (shape_of (size_or o (default_size s)) s)) (sym (unfound facilities s.number n named above)) (default-sized s block);
}

-- The plan.

pub sets-sized : (facilities : List (StructNo × Size)) (ss : List Cfstruct) → AllByRecursion (IsSetRight facilities) ss → AllByRecursion IsSetSized (paired (map (size_of facilities) ss) ss)
sets-sized facilities [] kept = tt
sets-sized facilities (s ∷ ss) kept = (kept.0.sized, sets-sized facilities ss kept.1)
