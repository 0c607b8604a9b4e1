-- the parts of a group as the machine sees them, and what a peer's work has to know of them
use Rattle.std.specs.Prelude.{ℕ, ◌≡◌, ◌⊎◌, Bool, true, false, List}
use Rattle.std.specs.List.{AllByRecursion}
use Rattle.qsg_num.specs.declared.seats.Member.{Member}
use Rattle.qsg_num.specs.declared.seats.StructNo.{StructNo}
use Rattle.qsg_num.specs.declared.ids.UnitName.{UnitName}
use Rattle.qsg_lists.specs.declared.parts.Entry.{Entry}
use Rattle.qsg_lists.specs.Marks.{is_unit_of, names_member}
use Rattle.qsg_lists.specs.Structures.{is_active}
use Rattle.qsg_logread.specs.Fed.{Fed, is_committed}
use Rattle.qsg_group.specs.Group.{Log, Group}
use Rattle.qsg_group.specs.Observers.{has_run, runs_from}
use Rattle.qsg_group.specs.Tables.{at_member}
use Rattle.qsg_group.specs.Changes.{Change, without_failed}
use Rattle.qsg_group.specs.Laws.{HasEnded}
use Rattle.qsg_manager.specs.Facilities.{structure_in}
use Rattle.qsg_manager.specs.Storage.{manager_in}
use Rattle.qsg_manager.specs.Groups.{seat_of, Rest, group_of}
use Rattle.qsg_logs.specs.Kept.{log_in}
use Rattle.qsg_walk.specs.Walks.{Walk}
use Rattle.qsg_walk.specs.Following.{Follows}
use Rattle.qsg_parts.specs.Owned.{Owned}
use Rattle.qsg_peer.specs.declared.phases.FailedLife.{FailedLife}

-- the machine's group, with what it has besides structures and members
abbrev pub group_in : Rest → Owned → Group
group_in rest p = group_of rest p.structures p.managers

-- the group is as it was, or one shared action was made
abbrev pub IsStep : Group → Group → Type 0
IsStep g h = (h ≡ g) ⊎ Change g h

-- the unit is one of the incarnation
abbrev pub is_of : FailedLife → UnitName → Bool
is_of life u = is_unit_of life.member life.incarnation u

-- the incarnation is an earlier one of its member, or its member is down
abbrev pub IsOver : FailedLife → Owned → Type 0
IsOver life p = HasEnded life.incarnation.number (seat_of (manager_in life.member p.managers))

-- the walk follows the log of the incarnation's member from a page on
abbrev pub IsFollowed : FailedLife → ℕ → Owned → Walk → Type 0
IsFollowed life first p walk = Follows first (log_in life.member p.logs).writer.size (log_in life.member p.logs).bytes walk

-- a reader knows of each unit of the incarnation whether its run is in the log, from the low page on
abbrev pub Knows : FailedLife → Fed → (Member → Log) → Type 0
Knows life reader logs = (u : UnitName) → is_of life u ≡ true → is_committed u reader.commits ≡ has_run u (runs_from (logs u.member).low (logs u.member).runs)

-- no mark of the incarnation stands in a structure
abbrev pub IsClear : FailedLife → List Entry → Type 0
IsClear life entries = AllByRecursion (λ (e : Entry). names_member life.member life.incarnation e.mark ≡ false) entries

-- none stands in any active structure
abbrev pub AreClear : FailedLife → Owned → Type 0
AreClear life p = (s : StructNo) → is_active (structure_in s p.structures).state ≡ true → IsClear life (structure_in s p.structures).entries

-- the incarnation isn't one that failed any more
abbrev pub with_resolved_life : FailedLife → Rest → Rest
with_resolved_life life rest = record rest { failed = at_member life.member (without_failed life.incarnation.number) rest.failed }
