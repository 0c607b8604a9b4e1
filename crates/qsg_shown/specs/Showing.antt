-- what a report shows of a group
use Rattle.std.specs.Prelude.{ℕ, ◌+◌, ◌-◌, ◌*◌, ◌^◌, ◌≡◌, Bool, not, if◌then◌else◌, List, [], ◌∷◌, map, count_by, slice_get, Option, Some, None, option_map}
use Rattle.std.specs.List.{filter_map, flat_map}
use Rattle.std.specs.List.Sorted.{IsPermutation, IsNonDecreasingBy}
use Rattle.qsg_num.specs.declared.seats.Member.{Member}
use Rattle.qsg_num.specs.declared.seats.Member.TheVariants as member
use Rattle.qsg_num.specs.declared.seats.StructNo.{StructNo}
use Rattle.qsg_num.specs.declared.seats.StructNo.TheVariants as structure
use Rattle.qsg_num.specs.Seats.{member_number}
use Rattle.qsg_lists.specs.declared.parts.Entry.{Entry}
use Rattle.qsg_lists.specs.declared.parts.State.{State as StructureState}
use Rattle.qsg_lists.specs.Entries.{used_of, depth_of}
use Rattle.qsg_lists.specs.Structures.{ListStructure}
use Rattle.qsg_objects.specs.declared.plans.MemberDef.{MemberDef}
use Rattle.qsg_objects.specs.declared.registry.Cfstruct.{Cfstruct}
use Rattle.qsg_objects.specs.declared.registry.Queue.{Queue}
use Rattle.qsg_objects.specs.Registry.{structure_numbered}
use Rattle.qsg_repo.specs.Calls.{is_unresolved}
use Rattle.qsg_repo.specs.Keeping.{keep}
use Rattle.qsg_repo.specs.Tables.{Repository}
use Rattle.qsg_manager.specs.Facilities.{structure_in}
use Rattle.qsg_manager.specs.Storage.{manager_in}
use Rattle.qsg_logs.specs.Kept.{log_in}
use Rattle.qsg_datasets.specs.Kept.{KeptSet, set_in, used_in}
use Rattle.qsg_report.specs.declared.shown.Shown.{Shown}
use Rattle.qsg_report.specs.declared.shown.ShownDataSet.{ShownDataSet}
use Rattle.qsg_report.specs.declared.shown.ShownFailure.{ShownFailure}
use Rattle.qsg_report.specs.declared.shown.ShownMember.{ShownMember}
use Rattle.qsg_report.specs.declared.shown.ShownQueue.{ShownQueue}
use Rattle.qsg_report.specs.declared.shown.ShownStructure.{ShownStructure}
use Rattle.qsg_report.specs.declared.shown.ShownWait.{ShownWait}
use Rattle.qsg_tallies.specs.declared.tally.Tally.{Tally}
use Rattle.qsg_step.specs.States.{State, is_member_up}

-- what is seen of a structure that is shown
pub record StructureSeen : Type 0 where
  pub name : List ℕ
  pub state : StructureState
  pub epoch : ℕ
  pub used : ℕ
  pub capacity : ℕ
  pub entries : List Entry

abbrev pub seen : ShownStructure → StructureSeen
seen s = record { name = s.name; state = s.state; epoch = s.epoch; used = s.used; capacity = s.capacity; entries = s.entries.items }

-- a structure, by its definition
abbrev pub structure_seen : Cfstruct → ListStructure → StructureSeen
structure_seen c s = record { name = c.definition.name; state = s.state; epoch = s.epoch; used = used_of s.entries; capacity = s.capacity; entries = s.entries }

-- the structure of a number, if one is defined
abbrev pub structure_at : State → StructNo → Option StructureSeen
structure_at s n = option_map (λ c. structure_seen c (structure_in n s.parts.structures)) (structure_numbered n s.parts.objects)

abbrev pub every_structure : List StructNo
every_structure = structure.One ∷ structure.Two ∷ structure.Three ∷ structure.Four ∷ []

abbrev pub structures_seen : State → List StructureSeen
structures_seen s = filter_map (structure_at s) every_structure

-- a member: its log has the pages from the first that may still be needed up to the next one
abbrev pub member_shown : State → Member → MemberDef → ShownMember
member_shown s m definition = record {
  name = definition.name;
  up = is_member_up m s;
  last = (manager_in m s.parts.managers).incarnation;
  pages = (log_in m s.parts.logs).writer.next - keep m s.parts.repo;
  size = definition.log_pages;
}

abbrev pub member_at : State → Member → Option ShownMember
member_at s m = option_map (member_shown s m) (slice_get s.members (member_number m - 1))

abbrev pub every_member : List Member
every_member = member.One ∷ member.Two ∷ member.Three ∷ member.Four ∷ member.Five ∷ member.Six ∷ member.Seven ∷ member.Eight ∷ []

abbrev pub members_shown : State → List ShownMember
members_shown s = filter_map (member_at s) every_member

-- a queue has the messages of its structure that aren't removed
abbrev pub queue_shown : State → Queue → ShownQueue
queue_shown s q = record { name = q.definition.name; depth = depth_of q.definition.name (structure_in q.structure s.parts.structures).entries }

abbrev pub queues_shown : State → List ShownQueue
queues_shown s = map (queue_shown s) s.parts.objects.queues

-- how many blocks of a data set are used by the map that stands for an epoch; where none does, none is
abbrev pub used_blocks : ℕ → KeptSet → ℕ
used_blocks epoch set = count_by (λ (is_used : Bool). is_used) (used_in epoch set)

-- A data set of a member for a structure: how many of its blocks are used in that epoch, which is told of a member that is
-- up, and how many it has.
abbrev pub set_shown : Member → StructNo → Bool → ℕ → KeptSet → ShownDataSet
set_shown m n up epoch set = record {
  member = m;
  structure = n;
  used = if up then Some (used_blocks epoch set) else None;
  blocks = set.contents.blocks;
}

-- the used blocks are those in the structure's present epoch
abbrev pub dataset_shown : State → Member → StructNo → ShownDataSet
dataset_shown s m n = set_shown m n (is_member_up m s) (structure_in n s.parts.structures).epoch (set_in m n s.parts.datasets)

-- the one of a structure that is defined
abbrev pub dataset_at : State → Member → StructNo → Option ShownDataSet
dataset_at s m n = option_map (λ (c : Cfstruct). dataset_shown s m n) (structure_numbered n s.parts.objects)

-- of a member that the group has, one for each structure
abbrev pub datasets_by : State → Member → Option MemberDef → List ShownDataSet
datasets_by s m None = []
datasets_by s m (Some definition) = filter_map (dataset_at s m) every_structure

abbrev pub datasets_at : State → Member → List ShownDataSet
datasets_at s m = datasets_by s m (slice_get s.members (member_number m - 1))

abbrev pub datasets_shown : State → List ShownDataSet
datasets_shown s = flat_map (datasets_at s) every_member

-- an incarnation that failed: whether it is resolved, and how many of its marks each member's system task took off
abbrev pub failure_shown : Repository → Tally → ShownFailure
failure_shown repo tally = record {
  member = tally.member;
  incarnation = tally.incarnation;
  resolved = not (is_unresolved tally.member tally.incarnation repo);
  counts = tally.counts;
}

-- incarnations go by their members, and then by their numbers, which are below 2^32
abbrev pub failure_rank : ShownFailure → ℕ
failure_rank f = member_number f.member * 2 ^ 32 + f.incarnation.number

-- each tally is shown once, in that order
pub record AreFailures (repo : Repository) (tallies : List Tally) (shown : List ShownFailure) : Type 0 where
  pub all : IsPermutation (map (failure_shown repo) tallies) shown
  pub order : IsNonDecreasingBy failure_rank shown

-- What is shown is the state: the group, its members, structures, queues and data sets, the incarnations that failed, and
-- the actors that wait, of which each is given with its cause.
pub record IsShown (waiting : List ShownWait) (s : State) (shown : Shown) : Type 0 where
  pub group : shown.group ≡ s.group
  pub members : shown.members.items ≡ members_shown s
  pub structures : map seen shown.structures.items ≡ structures_seen s
  pub queues : shown.queues.items ≡ queues_shown s
  pub datasets : shown.datasets.items ≡ datasets_shown s
  pub failed : AreFailures s.parts.repo s.tallies.rows shown.failed.items
  pub waits : shown.waits.items ≡ waiting
