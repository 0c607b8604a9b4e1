-- the group of a plan before its first step
use Rattle.std.specs.Prelude.{ℕ, ◌≡◌, ◌+◌, ◌-◌, map, Bool, false, List, [], ◌∷◌, length, replicate, slice_get, Option, Some, None, option_map, count_by, sum_by, take, fold}
use Rattle.std.specs.List.{filter_map}
use Rattle.qsg_num.specs.declared.seats.Member.{Member}
use Rattle.qsg_num.specs.declared.seats.Member.TheVariants as member
use Rattle.qsg_num.specs.declared.seats.StructNo.{StructNo}
use Rattle.qsg_num.specs.declared.seats.StructNo.TheVariants as structure
use Rattle.qsg_num.specs.declared.ids.Actor.{Actor}
use Rattle.qsg_num.specs.Seats.{structure_number}
use Rattle.qsg_lists.specs.declared.parts.State.TheVariants.{Active}
use Rattle.qsg_lists.specs.Structures.{ListStructure}
use Rattle.qsg_objects.specs.declared.directives.Directive.{Directive}
use Rattle.qsg_objects.specs.declared.plans.Plan.{Plan}
use Rattle.qsg_objects.specs.declared.plans.Size.{Size}
use Rattle.qsg_objects.specs.declared.registry.Cfstruct.{Cfstruct}
use Rattle.qsg_objects.specs.Registry.{Registry, structure_numbered}
use Rattle.qsg_repo.specs.Tables.{Repository}
use Rattle.qsg_repo.specs.Calls.{new_repository, started}
use Rattle.qsg_agenda.specs.Courses.{begun}
use Rattle.qsg_steady.specs.Founding.{new_manager}
use Rattle.qsg_peers.specs.Peers.{new_peer}
use Rattle.qsg_step.specs.States.{State}
use Rattle.qsg_sound.specs.Sound.{is_start}
use Rattle.qsg_devices.specs.Shapes.{shapes_of}
use Rattle.qsg_devices.specs.Logs.{AreNewLogs}
use Rattle.qsg_devices.specs.DataSets.{AreNewRows}

-- an active and empty structure
abbrev pub new_structure : StructNo → Size → ListStructure
new_structure s size = record { number = s; state = Active; epoch = 0; last = 0; capacity = size.elements; entries = [] }

abbrev pub structure_sized : List Size → StructNo → Option ListStructure
structure_sized sizes s = option_map (new_structure s) (slice_get sizes (structure_number s - 1))

-- one of each size, at most four
abbrev pub new_structures : List Size → List ListStructure
new_structures sizes = filter_map (structure_sized sizes) (structure.One ∷ structure.Two ∷ structure.Three ∷ structure.Four ∷ [])

-- how many directives start a member
abbrev pub starts_in : Actor × List Directive → ℕ
starts_in work = count_by is_start work.1

abbrev pub starts_of : List (Actor × List Directive) → ℕ
starts_of works = sum_by starts_in works

-- how many incarnations the members of a plan may have: each its first one, and one for each START
abbrev pub incarnations_of : ℕ → List (Actor × List Directive) → ℕ
incarnations_of members works = members + starts_of works

-- whether the messages of a structure may be persistent
abbrev pub recovers_in : Option Cfstruct → Bool
recovers_in None = false
recovers_in (Some structure) = structure.definition.recover

abbrev pub recover_of : StructNo → Registry → Bool
recover_of s objects = recovers_in (structure_numbered s objects)

abbrev pub recovering : Registry → List Bool
recovering objects = recover_of structure.One objects ∷ recover_of structure.Two objects ∷ recover_of structure.Three objects ∷ recover_of structure.Four objects ∷ []

-- the members that a group may have
abbrev pub all_members : List Member
all_members = member.One ∷ member.Two ∷ member.Three ∷ member.Four ∷ member.Five ∷ member.Six ∷ member.Seven ∷ member.Eight ∷ []

-- each of these members has one incarnation more
abbrev pub all_started : List Member → Repository → Repository
all_started members repo = fold (λ (r : Repository) (m : Member). started m r) repo members

-- the repository of so many members, each in its first incarnation, with room for so many incarnations
abbrev pub new_repo : ℕ → Registry → ℕ → Repository
new_repo members objects incarnations = all_started (take members all_members) (new_repository members (length objects.structures) (recovering objects) incarnations)

-- The group of a plan: its structures are active and empty, its members are up in their first incarnation, each with a
-- new log and a new data set for each structure, and nothing was done yet of what its actors are to do. There is room
-- for a tally of each incarnation.
pub record IsMade (plan : Plan) (s : State) : Type 0 where
  pub structures : s.parts.structures ≡ new_structures plan.sizes
  pub managers : s.parts.managers ≡ replicate (length plan.members) new_manager
  pub logs : AreNewLogs plan.members s.parts.logs
  pub datasets : AreNewRows (length plan.members) (shapes_of plan.sizes plan.objects) s.parts.datasets
  pub repo : s.parts.repo ≡ new_repo (length plan.members) plan.objects (incarnations_of (length plan.members) plan.works)
  pub objects : s.parts.objects ≡ plan.objects
  pub history : s.parts.history.items ≡ []
  pub courses : s.courses ≡ map begun plan.works
  pub works : s.works ≡ replicate 40 None
  pub due : s.due ≡ replicate 40 false
  pub peers : s.peers ≡ replicate 8 new_peer
  pub starting : s.starting ≡ None
  pub tallies : s.tallies ≡ record { limit = incarnations_of (length plan.members) plan.works; rows = [] }
  pub group : s.group ≡ plan.group
  pub members : s.members ≡ plan.members
  pub sizes : s.sizes ≡ plan.sizes
