-- how many steps are left to a peer's work at most
use Rattle.std.specs.Prelude.{ℕ, ◌≡◌, ◌+◌, ◌*◌, ◌<◌, ◌≤◌, List, Some, count_by}
use Rattle.qsg_num.specs.declared.seats.Member.{Member}
use Rattle.qsg_num.specs.declared.seats.StructNo.{StructNo}
use Rattle.qsg_num.specs.declared.seats.StructNo.TheVariants as structure
use Rattle.qsg_num.specs.declared.ids.EntryId.{EntryId}
use Rattle.qsg_num.specs.declared.ids.Incarnation.{Incarnation}
use Rattle.qsg_lists.specs.declared.parts.Entry.{Entry}
use Rattle.qsg_lists.specs.Entries.{is_marked_above}
use Rattle.qsg_repo.specs.Lives.{first_open}
use Rattle.qsg_manager.specs.Facilities.{structure_in}
use Rattle.qsg_manager.specs.Marked.{marks_of}
use Rattle.qsg_logs.specs.Kept.{log_in}
use Rattle.qsg_walk.specs.Walks.{Walk}
use Rattle.qsg_parts.specs.Owned.{Owned}
use Rattle.qsg_peer.specs.declared.phases.FailedLife.{FailedLife}
use Rattle.qsg_peer.specs.declared.phases.Phase.{Phase}
use Rattle.qsg_peer.specs.declared.phases.Phase.TheVariants.{Find, Low, At}
use Rattle.qsg_peer.specs.declared.phases.Stage.{Stage}
use Rattle.qsg_peer.specs.declared.phases.Stage.TheVariants.{Read, Connect, Search, Settle, Resolve}
use Rattle.qsg_peer.specs.Works.{Work}
use Rattle.qsg_peer.specs.Steps.{life_of, no_id}

-- how many of these entries, above an id, have a mark of the incarnation
abbrev pub marks_above : FailedLife → EntryId → List Entry → ℕ
marks_above life id entries = count_by (is_marked_above life.member life.incarnation id) entries

abbrev pub marks_above_in : FailedLife → EntryId → StructNo → Owned → ℕ
marks_above_in life id s p = marks_above life id (structure_in s p.structures).entries

-- a structure takes one step to connect, two for each mark, and one that finds no further mark
abbrev pub left_in : FailedLife → StructNo → Owned → ℕ
left_in life s p = 2 * marks_above_in life no_id s p + 2

-- the structures behind one, and all of them
abbrev pub left_behind : FailedLife → StructNo → Owned → ℕ
left_behind life structure.One p = left_in life structure.Two p + (left_in life structure.Three p + left_in life structure.Four p)
left_behind life structure.Two p = left_in life structure.Three p + left_in life structure.Four p
left_behind life structure.Three p = left_in life structure.Four p
left_behind life structure.Four p = 0

abbrev pub left_in_all : FailedLife → Owned → ℕ
left_in_all life p = left_in life structure.One p + left_behind life structure.One p

-- the pages that the walk may still read, and then the structures and the end
abbrev pub left_on : FailedLife → Stage → Walk → Owned → ℕ
left_on life Read walk p = walk.left + left_in_all life p + 1
left_on life (Connect s) walk p = left_in life s p + left_behind life s p + 1
left_on life (Search connection after) walk p = 2 * marks_above_in life after connection.structure p + left_behind life connection.structure p + 2
left_on life (Settle connection found) walk p = 2 * marks_above_in life found.id connection.structure p + left_behind life connection.structure p + 3
left_on life Resolve walk p = 1

-- a work that has found no incarnation yet has nothing left
abbrev pub left_at : Phase → Walk → Owned → ℕ
left_at Find walk p = 0
left_at (Low life) walk p = (log_in life.member p.logs).writer.size + left_in_all life p + 2
left_at (At life stage) walk p = left_on life stage walk p

abbrev pub left_of_peer : Work → Owned → ℕ
left_of_peer w p = left_at w.phase w.walk p

-- More than what is left once an incarnation is found, whose member's log has so many pages, and so many of whose marks
-- stand: four structures take two steps each besides.
abbrev pub whole_peer : ℕ → ℕ → ℕ
whole_peer pages marks = pages + 2 * marks + 11

-- the same of an incarnation of a group
abbrev pub whole_of : FailedLife → Owned → ℕ
whole_of life p = whole_peer (log_in life.member p.logs).writer.size (marks_of life.member life.incarnation p.structures)

-- the incarnation that a work finds, with which it goes on
pub record HasFoundLife (skip : List (Member × Incarnation)) (w : Work) (p : Owned) (v : Work) (q : Owned) : Type 0 where
  pub name : Member × Incarnation
  pub first : first_open skip p.repo.lives ≡ Some name
  pub work_is : v ≡ record w { phase = Low (life_of name) }
  pub parts_are : q ≡ p
  pub left : left_of_peer v q < whole_of (life_of name) p

-- above no id of any structure are more marks of the incarnation than before
abbrev pub HasNoMoreMarks : FailedLife → Owned → Owned → Type 0
HasNoMoreMarks life p q = (id : EntryId) (s : StructNo) → marks_above_in life id s q ≤ marks_above_in life id s p

-- nor of the one that a work has found
abbrev pub HasNoMoreAt : Phase → Owned → Owned → Type 0
HasNoMoreAt Find p q = Unit {0}
HasNoMoreAt (Low life) p q = HasNoMoreMarks life p q
HasNoMoreAt (At life stage) p q = HasNoMoreMarks life p q
