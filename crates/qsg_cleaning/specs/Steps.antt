-- what each step of a cleaning does, exactly
use Rattle.std.specs.Prelude.{ℕ, Bool, ◌&&◌, if◌then◌else◌, List, [], Option, Some, None, Result, Ok, Err}
use Rattle.qsg_num.specs.declared.seats.Member.{Member}
use Rattle.qsg_num.specs.declared.seats.StructNo.{StructNo}
use Rattle.qsg_num.specs.declared.ids.Block.{Block}
use Rattle.qsg_num.specs.declared.ids.EntryId.{EntryId}
use Rattle.qsg_lists.specs.declared.parts.Connection.{Connection}
use Rattle.qsg_lists.specs.declared.parts.Entry.{Entry}
use Rattle.qsg_lists.specs.declared.parts.Lost.{Lost}
use Rattle.qsg_lists.specs.declared.parts.Place.{Place}
use Rattle.qsg_lists.specs.declared.parts.Place.TheVariants.{Inline, Offloaded}
use Rattle.qsg_lists.specs.declared.parts.Seen.{Seen}
use Rattle.qsg_lists.specs.Entries.{entry_at, is_owned, revise}
use Rattle.qsg_lists.specs.Marks.{is_cleanup}
use Rattle.qsg_lists.specs.Settling.{deleted}
use Rattle.qsg_lists.specs.Structures.{ListStructure, connect_answer, lost_of, unless}
use Rattle.qsg_datasets.specs.Kept.{set_in, with_set, freed}
use Rattle.qsg_manager.specs.Facilities.{structure_in, with_structure}
use Rattle.qsg_parts.specs.Owned.{Owned}
use Rattle.qsg_cleaning.specs.declared.phases.CleaningTurn.{CleaningTurn}
use Rattle.qsg_cleaning.specs.declared.phases.CleaningTurn.TheVariants.{More, Done}
use Rattle.qsg_cleaning.specs.declared.phases.Phase.{Phase}
use Rattle.qsg_cleaning.specs.declared.phases.Phase.TheVariants.{Connect, Search, Forget}
use Rattle.qsg_cleaning.specs.declared.work.CleaningWork.{CleaningWork}
use Rattle.qsg_cleaning.specs.Finding.{cleanup_in}

-- how a step ended, and what it left
pub record Next : Type 0 where
  pub turn : CleaningTurn
  pub work : CleaningWork
  pub parts : Owned

-- a cleaning before its first step
abbrev pub new_work : Member → StructNo → CleaningWork
new_work m s = record { member = m; structure = s; phase = Connect }

abbrev pub structure_of : StructNo → Owned → ListStructure
structure_of s p = structure_in s p.structures

-- the use of its structure in an epoch
abbrev pub connection_of : CleaningWork → ℕ → Connection
connection_of w epoch = record { structure = w.structure; epoch = epoch }

-- the work goes on with the next phase, or ends where there is none
abbrev pub going_on : Option Phase → CleaningWork → Owned → Next
going_on None w p = record { turn = Done; work = w; parts = p }
going_on (Some phase) w p = record { turn = More; work = record w { phase = phase }; parts = p }

-- ---- the structure

-- it is used in its present epoch; one that isn't active has nothing to clean
abbrev pub connected : Result Seen Lost → Option Phase
connected (Ok seen) = Some (Search seen.connection.epoch)
connected (Err lost) = None

abbrev pub after_connect : CleaningWork → Owned → Next
after_connect w p = going_on (connected (connect_answer (structure_of w.structure p))) w p

-- ---- the entry

abbrev pub search_answer : Member → Connection → Owned → Result (Option Entry) Lost
search_answer owner connection p = unless (lost_of (structure_of connection.structure p) connection) (cleanup_in owner (structure_of connection.structure p).entries)

-- it is forgotten next; or there is none, or the structure isn't served any more
abbrev pub searched : ℕ → Result (Option Entry) Lost → Option Phase
searched epoch (Ok (Some e)) = Some (Forget epoch e.id)
searched epoch (Ok None) = None
searched epoch (Err lost) = None

abbrev pub after_search : ℕ → CleaningWork → Owned → Next
after_search epoch w p = going_on (searched epoch (search_answer w.member (connection_of w epoch) p)) w p

-- ---- the entry goes

-- an entry that this member is to forget: it is removed, and its body stands in this member's data set
abbrev pub is_to_clean : Member → Entry → Bool
is_to_clean owner e = is_cleanup e.mark && is_owned owner e.place

abbrev pub blocks_of : Place → List Block
blocks_of (Inline body) = []
blocks_of (Offloaded owner blocks length) = blocks

-- what stands under the id, if the structure still serves the connection
abbrev pub entry_answer : Connection → EntryId → Owned → Result (Option Entry) Lost
entry_answer connection id p = unless (lost_of (structure_of connection.structure p) connection) (entry_at id (structure_of connection.structure p).entries)

-- the entry is forgotten, and its blocks are free in the member's map, where that stands for the epoch
abbrev pub cleaned : Member → Connection → EntryId → Entry → Owned → Owned
cleaned owner connection id e p = record p {
  structures = with_structure connection.structure (record (structure_of connection.structure p) { entries = revise id deleted (structure_of connection.structure p).entries }) p.structures;
  datasets = with_set owner connection.structure (freed connection.epoch (blocks_of e.place) (set_in owner connection.structure p.datasets)) p.datasets;
}

-- an entry that this member isn't to forget stays
abbrev pub cleaned_if : Member → Connection → EntryId → Result (Option Entry) Lost → Owned → Owned
cleaned_if owner connection id (Ok (Some e)) p = if is_to_clean owner e then cleaned owner connection id e p else p
cleaned_if owner connection id (Ok None) p = p
cleaned_if owner connection id (Err lost) p = p

abbrev pub after_forgetting : Member → Connection → EntryId → Owned → Owned
after_forgetting owner connection id p = cleaned_if owner connection id (entry_answer connection id p) p

abbrev pub after_forget : ℕ → EntryId → CleaningWork → Owned → Next
after_forget epoch id w p = record { turn = Done; work = w; parts = after_forgetting w.member (connection_of w epoch) id p }

-- ---- a step

abbrev pub after_step : Phase → CleaningWork → Owned → Next
after_step Connect w p = after_connect w p
after_step (Search epoch) w p = after_search epoch w p
after_step (Forget epoch id) w p = after_forget epoch id w p

-- one step of a cleaning
abbrev pub next_of : CleaningWork → Owned → Next
next_of w p = after_step w.phase w p
