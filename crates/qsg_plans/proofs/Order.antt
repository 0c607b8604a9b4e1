-- actors whose ranks rise stand in order
use Rattle.std.proofs.Common.{ℕ, ◌+◌, ◌≤◌, List, [], ◌∷◌, arith}
use Rattle.std.specs.List.{AllByRecursion}
use Rattle.qsg_num.specs.declared.ids.Actor.{Actor}
use Rattle.qsg_num.specs.declared.ids.Actor.TheVariants.{Task, Operator}
use Rattle.qsg_num.proofs.Ranges.{member-bounds, task-bounds}
use Rattle.qsg_objects.specs.declared.directives.Directive.{Directive}
use Rattle.qsg_draft.specs.Lookups.{rank_of}
use Rattle.qsg_draft.specs.Order.{AreRisingFrom}
use Rattle.qsg_plans.specs.Plans.{IsBefore, IsWorkBefore, AreInOrder}

none-behind : (a : Actor) → 46 ≤ rank_of a → ⊥
none-behind (Task m t) h = let b = member-bounds m in let c = task-bounds t in omega (arith, h, b, c)
none-behind Operator h = omega (arith, h)

before : (a b : Actor) → rank_of a + 1 ≤ rank_of b → IsBefore a b
before (Task m t) (Task n u) h = omega (arith, h)
before (Task m t) Operator h = tt
before Operator b h = none-behind b h

all-before : (a : Actor) (n : ℕ) (ss : List (Actor × List Directive)) → rank_of a + 1 ≤ n → AreRisingFrom n ss → AllByRecursion (IsWorkBefore a) ss
all-before a n [] low rising = tt
all-before a n (s ∷ ss) low rising = (before a s.0 (omega (arith, low, rising.0)), all-before a (rank_of s.0 + 1) ss (omega (arith, low, rising.0)) rising.1)

pub rising-in-order : (n : ℕ) (ss : List (Actor × List Directive)) → AreRisingFrom n ss → AreInOrder ss
rising-in-order n [] rising = tt
rising-in-order n (s ∷ ss) rising = (all-before s.0 (rank_of s.0 + 1) ss (omega arith) rising.1, rising-in-order (rank_of s.0 + 1) ss rising.1)
