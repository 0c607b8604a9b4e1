-- a block is used exactly where an entry lists it
use Rattle.std.proofs.Common.{◌≡◌, ℕ, ◌+◌, ◌<◌, Bool, true, false, List, [], ◌∷◌, None, inl, inr, refl, sym, arith}
use Rattle.std.specs.Prelude.{◌⊎◌, if◌then◌else◌, ◌==◌, ◌&&◌, ◌||◌}
use Rattle.qsg_num.specs.declared.seats.Member.{Member}
use Rattle.qsg_num.specs.declared.ids.Block.{Block}
use Rattle.qsg_num.specs.Seats.{member_number}
use Rattle.qsg_lists.specs.declared.parts.Entry.{Entry}
use Rattle.qsg_lists.specs.declared.parts.Place.{Place}
use Rattle.qsg_lists.specs.declared.parts.Place.TheVariants.{Inline, Offloaded}
use Rattle.qsg_space.specs.Spaces.{is_used, has_block}
use Rattle.qsg_lists.specs.Structures.{is_active}
use Rattle.qsg_datasets.specs.Kept.{used_in}
use Rattle.qsg_blocks.specs.State.{Ground, uses, lists, listed, used_once}
use Rattle.qsg_blocks.specs.Changes.{IsMade}
use Rattle.qsg_blocks.specs.Works.{Starter, FitsStart}
use Rattle.qsg_rebuild.specs.Fitting.{ended, has_in, is_listed}

-- a number is above 0 exactly where a test passes
abbrev Tells : ℕ → Bool → Type 0
Tells n b = ((n ≡ 0) × (b ≡ false)) ⊎ ((0 < n) × (b ≡ true))

add_tells : (n m : ℕ) (a b : Bool) → Tells n a → Tells m b → Tells (n + m) (a || b)
add_tells n m true b (inl x) y = absurd cc
add_tells n m true b (inr x) y = let low = x.0 in inr (omega (arith, low), refl)
add_tells n m false b (inr x) y = absurd cc
add_tells n m false b (inl x) (inl y) = let one = x.0 in let two = y.0 in inl (omega (arith, one, two), y.1)
add_tells n m false b (inl x) (inr y) = let low = y.0 in inr (omega (arith, low), y.1)

one_tells : (b : Bool) → Tells (if b then 1 else 0) b
one_tells true = inr (omega arith, refl)
one_tells false = inl (refl, refl)

uses_tells : (b : Block) (blocks : List Block) → Tells (uses b blocks) (has_block b blocks)
uses_tells b [] = inl (refl, refl)
uses_tells b (x ∷ blocks) = add_tells (if x.number == b.number then 1 else 0) (uses b blocks) (x.number == b.number) (has_block b blocks) (one_tells (x.number == b.number)) (uses_tells b blocks)

own_tells : (own : Bool) (b : Block) (blocks : List Block) → Tells (if own then uses b blocks else 0) (own && has_block b blocks)
own_tells true b blocks = uses_tells b blocks
own_tells false b blocks = inl (refl, refl)

place_tells : (m : Member) (b : Block) (place : Place) → Tells (lists m b place) (has_in m b place)
place_tells m b (Inline body) = inl (refl, refl)
place_tells m b (Offloaded owner blocks n) = own_tells (member_number owner == member_number m) b blocks

listed_tells : (m : Member) (b : Block) (es : List Entry) → Tells (listed m b es) (is_listed m b es)
listed_tells m b [] = inl (refl, refl)
listed_tells m b (e ∷ es) = add_tells (lists m b e.place) (listed m b es) (has_in m b e.place) (is_listed m b es) (place_tells m b e.place) (listed_tells m b es)

same_tells : (n : ℕ) (used listed_is : Bool) → (if used then 1 else 0) ≡ n → Tells n listed_is → used ≡ listed_is
same_tells n true l is (inl x) = let none = x.0 in absurd (omega (arith, none, is))
same_tells n true l is (inr x) = sym x.1
same_tells n false l is (inl x) = sym x.1
same_tells n false l is (inr x) = let some = x.0 in absurd (omega (arith, some, is))

pub used_listed : (m : Member) (b : Block) (used : List Bool) (es : List Entry) → used_once used b ≡ listed m b es → is_used used b ≡ is_listed m b es
used_listed m b used es is = same_tells (listed m b es) (is_used used b) (is_listed m b es) is (listed_tells m b es)

-- what a START is ready with
abbrev pub IsReady : Type 0
IsReady = (w : Starter) (g : Ground) → FitsStart w g → w.shuts ≡ 2 → w.place ≡ None → IsMade w.owner (g.sets w.owner) g.structure

pub exact : IsReady → (m : Member) (g : Ground) → FitsStart (ended m g) g → is_active g.structure.state ≡ true → (b : Block) → is_used (used_in g.structure.epoch (g.sets m)) b ≡ is_listed m b g.structure.entries
exact ready m g fits act b = used_listed m b (used_in g.structure.epoch (g.sets m)) g.structure.entries ((ready (ended m g) g fits refl refl).made act b)
