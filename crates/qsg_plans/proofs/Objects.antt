-- what definitions make: structures are numbered, and each queue is on one that there is
use Rattle.std.proofs.Common.{◌≡◌, ◌≤◌, ℕ, ◌+◌, List, [], ◌∷◌, ◌++◌, length, Option, Some, None, refl, arith}
use Rattle.std.specs.List.{AllByRecursion}
use Rattle.qsg_num.specs.declared.seats.StructNo.{StructNo}
use Rattle.qsg_num.specs.Seats.{structure_at}
use Rattle.qsg_num.proofs.Ranges.{structure-bounds}
use Rattle.qsg_objects.specs.declared.definitions.CfstructDef.{CfstructDef}
use Rattle.qsg_objects.specs.declared.definitions.QlocalDef.{QlocalDef}
use Rattle.qsg_objects.specs.declared.definitions.Definition.{Definition}
use Rattle.qsg_objects.specs.declared.definitions.Definition.TheVariants.{Cfstruct as a_structure, Qlocal as a_queue}
use Rattle.qsg_objects.specs.declared.registry.Cfstruct.{Cfstruct}
use Rattle.qsg_objects.specs.declared.registry.Queue.{Queue}
use Rattle.qsg_objects.specs.Registry.{Registry, number_named, with_structure, with_queue, defined, AreNumbered, IsPlaced}
use Rattle.qsg_objects.proofs.Kept.{all-append, all-imp, numbered-append, number-stays, counted-queues}
use Rattle.qsg_sysplex.specs.Plans.{IsOnOneOf}
use Rattle.qsg_plans.proofs.Numbers.{structure-at}

pub record AreDefined (o : Registry) : Type 0 where
  pub numbered : AreNumbered 1 o.structures
  pub placed : AllByRecursion (IsPlaced o.structures) o.queues

structure-keeps : (n : Option StructNo) (d : CfstructDef) (o : Registry) → structure_at (length o.structures + 1) ≡ n → AreDefined o → AreDefined (with_structure n d o)
structure-keeps None d o is kept = kept
structure-keeps (Some n) d o is kept =
    let s : Cfstruct = record { number = n; definition = d } in
    let number = structure-at (length o.structures + 1) n is in
    record {
      numbered = numbered-append 1 o.structures s kept.numbered (omega (arith, number));
      placed = all-imp (IsPlaced o.structures) (IsPlaced (o.structures ++ s ∷ [])) (λ q is. number-stays q.definition.cfstruct o.structures s q.structure is) o.queues kept.placed;
    }

queue-keeps : (n : Option StructNo) (d : QlocalDef) (o : Registry) → number_named d.cfstruct o ≡ n → AreDefined o → AreDefined (with_queue n d o)
queue-keeps None d o is kept = kept
queue-keeps (Some n) d o is kept =
    let q : Queue = record { structure = n; definition = d } in
    record { numbered = kept.numbered; placed = all-append (IsPlaced o.structures) o.queues q kept.placed is }

pub defined-keeps : (d : Definition) (o : Registry) → AreDefined o → AreDefined (defined d o)
defined-keeps (a_structure d) o kept = structure-keeps (structure_at (length o.structures + 1)) d o refl kept
defined-keeps (a_queue d) o kept = queue-keeps (number_named d.cfstruct o) d o refl kept

pub queues-placed : (o : Registry) → AreDefined o → AllByRecursion (IsOnOneOf (length o.structures)) o.queues
queues-placed o kept = counted-queues o.structures o.queues kept.numbered kept.placed

-- there are at most four structures
numbered-few : (n : ℕ) (ss : List Cfstruct) → n ≤ 5 → AreNumbered n ss → n + length ss ≤ 5
numbered-few n [] few each = omega (arith, few)
numbered-few n (s ∷ ss) few each = let most = structure-bounds s.number in let rest = numbered-few (n + 1) ss (omega (arith, most, each.0)) each.1 in omega (arith, rest)

pub structures-few : (o : Registry) → AreDefined o → length o.structures ≤ 4
structures-few o kept = let few = numbered-few 1 o.structures (omega arith) kept.numbered in omega (arith, few)
