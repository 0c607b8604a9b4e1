-- how far the marks of an incarnation are off
use Rattle.std.specs.Prelude.{ℕ, ◌≡◌, ◌<◌, ◌≤◌, true, false, List, Some, None}
use Rattle.std.specs.List.{AllByRecursion}
use Rattle.qsg_num.specs.declared.seats.StructNo.{StructNo}
use Rattle.qsg_num.specs.declared.seats.Member.{Member}
use Rattle.qsg_num.specs.declared.ids.EntryId.{EntryId}
use Rattle.qsg_num.specs.declared.ids.Incarnation.{Incarnation}
use Rattle.qsg_num.specs.Seats.{structure_number}
use Rattle.qsg_lists.specs.declared.parts.Connection.{Connection}
use Rattle.qsg_lists.specs.declared.parts.Entry.{Entry}
use Rattle.qsg_lists.specs.declared.parts.Lost.{Lost}
use Rattle.qsg_lists.specs.Entries.{entry_at, AreInOrder}
use Rattle.qsg_lists.specs.Marks.{names_unit, names_member}
use Rattle.qsg_lists.specs.Structures.{ListStructure, is_active, lost_of}
use Rattle.qsg_manager.specs.Facilities.{structure_in}
use Rattle.qsg_parts.specs.Owned.{Owned}
use Rattle.qsg_manager.specs.declared.structures.MarkedEntry.{MarkedEntry}
use Rattle.qsg_peer.specs.declared.phases.FailedLife.{FailedLife}
use Rattle.qsg_peer.specs.declared.phases.Phase.{Phase}
use Rattle.qsg_peer.specs.declared.phases.Phase.TheVariants.{Find, Low, At}
use Rattle.qsg_peer.specs.declared.phases.Stage.{Stage}
use Rattle.qsg_peer.specs.declared.phases.Stage.TheVariants.{Read, Connect, Search, Settle, Resolve}
use Rattle.qsg_peer.specs.Works.{Work}
use Rattle.qsg_peer.specs.Steps.{with_resolved}
use Rattle.qsg_peer.specs.Machine.{IsClear, AreClear}

-- no mark of the incarnation stands up to an id, or before one
abbrev pub IsSweptTo : FailedLife → EntryId → List Entry → Type 0
IsSweptTo life last entries = AllByRecursion (λ (e : Entry). e.id.number ≤ last.number → names_member life.member life.incarnation e.mark ≡ false) entries

abbrev pub IsSweptBefore : FailedLife → EntryId → List Entry → Type 0
IsSweptBefore life id entries = AllByRecursion (λ (e : Entry). e.id.number < id.number → names_member life.member life.incarnation e.mark ≡ false) entries

-- the entry that was found has a mark of that unit, if it has one of the incarnation
abbrev pub IsMarkedSo : FailedLife → MarkedEntry → List Entry → Type 0
IsMarkedSo life found entries = (e : Entry) → entry_at found.id entries ≡ Some e → names_member life.member life.incarnation e.mark ≡ true → names_unit found.unit e.mark ≡ true

-- all marks before the one that was found are off
pub record IsSweptUpTo (life : FailedLife) (found : MarkedEntry) (entries : List Entry) : Type 0 where
  pub before : IsSweptBefore life found.id entries
  pub so : IsMarkedSo life found entries

-- no mark stands in active structures of lower numbers
abbrev pub AreClearBefore : FailedLife → ℕ → Owned → Type 0
AreClearBefore life n p = (s : StructNo) → structure_number s < n → is_active (structure_in s p.structures).state ≡ true → IsClear life (structure_in s p.structures).entries

-- Where a connection is served, this holds of its structure's entries. Where it isn't any more, no mark stands there,
-- since the structure was lost meanwhile.
pub record HoldsInUse (life : FailedLife) (connection : Connection) (Swept : List Entry → Type 0) (structure : ListStructure) : Type 0 where
  pub served : lost_of structure connection ≡ None → Swept structure.entries
  pub lost : (lost : Lost) → lost_of structure connection ≡ Some lost → is_active structure.state ≡ true → IsClear life structure.entries

-- the marks that are off at a stage
abbrev pub HasSwept : FailedLife → Stage → Owned → Type 0
HasSwept life Read p = Unit {0}
HasSwept life (Connect s) p = AreClearBefore life (structure_number s) p
HasSwept life (Search connection after) p = AreClearBefore life (structure_number connection.structure) p × HoldsInUse life connection (IsSweptTo life after) (structure_in connection.structure p.structures)
HasSwept life (Settle connection found) p = AreClearBefore life (structure_number connection.structure) p × HoldsInUse life connection (IsSweptUpTo life found) (structure_in connection.structure p.structures)
HasSwept life Resolve p = AreClear life p

abbrev pub HasSweptAt : Phase → Owned → Type 0
HasSweptAt Find p = Unit {0}
HasSweptAt (Low life) p = Unit {0}
HasSweptAt (At life stage) p = HasSwept life stage p

-- the id of each entry is above 0
abbrev pub AreAbove : Owned → Type 0
AreAbove p = (s : StructNo) → AllByRecursion (λ (e : Entry). 0 < e.id.number) (structure_in s p.structures).entries

-- the entries of each structure are in order of id, from 1 on
pub record AreOrdered (p : Owned) : Type 0 where
  pub ordered : (s : StructNo) → AreInOrder (structure_in s p.structures).entries
  pub above : AreAbove p

-- A step that answers Resolved: no mark of the incarnation stands in an active structure, the number is that of the marks
-- that the work took off, and the repository has the incarnation resolved.
pub record HasResolved (m : Member) (i : Incarnation) (n : ℕ) (w : Work) (p q : Owned) : Type 0 where
  pub clear : AreClear (record { member = m; incarnation = i }) p
  pub settled : n ≡ w.settled
  pub parts : q ≡ with_resolved (record { member = m; incarnation = i }) p
