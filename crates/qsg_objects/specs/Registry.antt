-- the objects of a group, and what a definition does to them
use Rattle.std.specs.Prelude.{◌≡◌, ℕ, ◌+◌, ◌-◌, ◌≤◌, Bool, nat_le, nat_eq, if◌then◌else◌, List, [], ◌∷◌, ◌++◌, length, map, find, slice_get, string_bytes, String, Option, None, Some, is_some, is_none, option_map}
use Rattle.std.specs.List.{AllByRecursion}
use Rattle.std.specs.Cmp.Lexicographic.{pointwise}
use Rattle.std.specs.declared.alloc.Global.{Global}
use Rattle.qsg_num.specs.declared.seats.StructNo.{StructNo}
use Rattle.qsg_num.specs.Seats.{structure_number, structure_at}
use Rattle.qsg_objects.specs.declared.definitions.CfstructDef.{CfstructDef}
use Rattle.qsg_objects.specs.declared.definitions.QlocalDef.{QlocalDef}
use Rattle.qsg_objects.specs.declared.definitions.Definition.{Definition}
use Rattle.qsg_objects.specs.declared.definitions.Definition.TheVariants.{Cfstruct as a_structure, Qlocal as a_queue}
use Rattle.qsg_objects.specs.declared.registry.Cfstruct.{Cfstruct}
use Rattle.qsg_objects.specs.declared.registry.Queue.{Queue}
use Rattle.qsg_objects.specs.declared.registry.ObjectFault.{ObjectFault}
use Rattle.qsg_objects.specs.declared.registry.ObjectFault.TheVariants.{AlreadyDefined, NoSuchStructure, TooMany}
use Rattle.qsg_objects.specs.declared.registry.ObjectError.{ObjectError}
use Rattle.qsg_objects.specs.declared.registry.ObjectError.TheVariants.{Fault, NoMemory}

-- the structures and the queues, each in the order in which they were made
pub record Registry : Type 0 where
  pub structures : List Cfstruct
  pub queues : List Queue

abbrev pub nothing_defined : Registry
nothing_defined = record { structures = []; queues = [] }

-- names are the same where their bytes are
abbrev pub is_name : List ℕ → List ℕ → Bool
is_name a b = pointwise nat_eq a b

abbrev pub is_structure : List ℕ → Cfstruct → Bool
is_structure name s = is_name name s.definition.name

abbrev pub is_queue : List ℕ → Queue → Bool
is_queue name q = is_name name q.definition.name

-- the structure, its number, and the queue of a name
abbrev pub structure_called : List ℕ → Registry → Option Cfstruct
structure_called name o = find (is_structure name) o.structures

abbrev pub number_in : List ℕ → List Cfstruct → Option StructNo
number_in name structures = option_map (λ (s : Cfstruct). s.number) (find (is_structure name) structures)

abbrev pub number_named : List ℕ → Registry → Option StructNo
number_named name o = number_in name o.structures

abbrev pub queue_named : List ℕ → Registry → Option Queue
queue_named name o = find (is_queue name) o.queues

-- structures are numbered from 1 in the order in which they were made
abbrev pub structure_numbered : StructNo → Registry → Option Cfstruct
structure_numbered n o = slice_get o.structures (structure_number n - 1)

-- with one more structure, which has the next number, if there is one
abbrev pub with_structure : Option StructNo → CfstructDef → Registry → Registry
with_structure None d o = o
with_structure (Some n) d o = record o { structures = o.structures ++ (record { number = n; definition = d }) ∷ [] }

-- with one more queue on a structure, if there is that
abbrev pub with_queue : Option StructNo → QlocalDef → Registry → Registry
with_queue None d o = o
with_queue (Some n) d o = record o { queues = o.queues ++ (record { structure = n; definition = d }) ∷ [] }

-- the objects after a definition that isn't refused
abbrev pub defined : Definition → Registry → Registry
defined (a_structure d) o = with_structure (structure_at (length o.structures + 1)) d o
defined (a_queue d) o = with_queue (number_named d.cfstruct o) d o

-- why a definition is refused, by the first cause that holds
abbrev pub refusal : Definition → Registry → Option ObjectFault
refusal (a_structure d) o =
    if is_some (structure_called d.name o) then Some AlreadyDefined
    else if nat_le 4 (length o.structures) then Some TooMany
    else None
refusal (a_queue d) o =
    if is_some (queue_named d.name o) then Some AlreadyDefined
    else if is_none (number_named d.cfstruct o) then Some NoSuchStructure
    else if nat_le 64 (length o.queues) then Some TooMany
    else None

-- what an error says of the refusal: memory is wanting only where there is none
abbrev pub Says : ObjectError → Option ObjectFault → Type 0
Says (Fault f) refused = refused ≡ Some f
Says NoMemory refused = refused ≡ None

-- structures numbered from n on
abbrev pub AreNumbered : ℕ → List Cfstruct → Type 0
AreNumbered n [] = Unit {0}
AreNumbered n (s ∷ ss) = (structure_number s.number ≡ n) × AreNumbered (n + 1) ss

-- a queue is on the structure that its definition names
abbrev pub IsPlaced : List Cfstruct → Queue → Type 0
IsPlaced structures q = number_in q.definition.cfstruct structures ≡ Some q.structure

-- what holds of the entries: each stands under its name, structures are numbered, queues are on structures
-- that there are
pub record IsKept (structures : List (String Global × Cfstruct)) (queues : List (String Global × Queue)) : Type 0 where
  pub structure_keys : AllByRecursion (λ e. string_bytes e.0 ≡ e.1.definition.name) structures
  pub queue_keys : AllByRecursion (λ e. string_bytes e.0 ≡ e.1.definition.name) queues
  pub numbered : AreNumbered 1 (map (λ e. e.1) structures)
  pub placed : AllByRecursion (IsPlaced (map (λ e. e.1) structures)) (map (λ e. e.1) queues)
  pub few_structures : length structures ≤ 4
  pub few_queues : length queues ≤ 64
