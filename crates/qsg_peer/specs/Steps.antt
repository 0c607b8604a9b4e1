-- what each step of a peer's work does, exactly
use Rattle.std.specs.Prelude.{ℕ, Bool, true, ◌≡◌, ◌||◌, ◌+◌, ◌-◌, ◌^◌, ◌⊎◌, min, nat_le, ◌==◌, List, length, Option, Some, None, is_some, IsErr, Result, Ok, Err, if◌then◌else◌, option_map}
use Rattle.qsg_num.specs.declared.seats.Member.{Member}
use Rattle.qsg_num.specs.declared.seats.StructNo.{StructNo}
use Rattle.qsg_num.specs.declared.ids.EntryId.{EntryId}
use Rattle.qsg_num.specs.declared.ids.Incarnation.{Incarnation}
use Rattle.qsg_num.specs.declared.words.LogWhy.{LogWhy}
use Rattle.qsg_num.specs.declared.words.LogWhy.TheVariants.{Device}
use Rattle.qsg_num.specs.Seats.{structure_number, structure_at}
use Rattle.qsg_num.specs.Faults.{Rose}
use Rattle.qsg_lists.specs.declared.parts.Connection.{Connection}
use Rattle.qsg_lists.specs.declared.parts.Lost.{Lost}
use Rattle.qsg_lists.specs.declared.parts.Seen.{Seen}
use Rattle.qsg_lists.specs.declared.parts.Settled.{Settled}
use Rattle.qsg_lists.specs.declared.parts.Settled.TheVariants.{Done, NotYours}
use Rattle.qsg_lists.specs.Structures.{connect_answer, lost_of, unless}
use Rattle.qsg_lists.specs.Settling.{settle_answer, settled_entry, revised_if_done}
use Rattle.qsg_logrec.specs.declared.record.LogRecord.{LogRecord}
use Rattle.qsg_logread.specs.Fed.{is_committed}
use Rattle.qsg_repo.specs.Lives.{first_open}
use Rattle.qsg_repo.specs.Tables.{low_of}
use Rattle.qsg_repo.specs.Calls.{resolved}
use Rattle.qsg_manager.specs.Facilities.{structure_in, with_structure}
use Rattle.qsg_logs.specs.Kept.{log_in, with_log}
use Rattle.qsg_parts.specs.Owned.{Owned}
use Rattle.qsg_manager.specs.declared.structures.MarkedEntry.{MarkedEntry}
use Rattle.qsg_manager.specs.Marked.{marked_above}
use Rattle.qsg_logs.specs.Reading.{IsRead, IsFound}
use Rattle.qsg_walk.specs.Walks.{Walk, new_walk, after_read, Feeds, IsBad}
use Rattle.qsg_peer.specs.declared.phases.FailedLife.{FailedLife}
use Rattle.qsg_peer.specs.declared.phases.NoMemory.{NoMemory}
use Rattle.qsg_peer.specs.declared.phases.PeerTurn.{PeerTurn}
use Rattle.qsg_peer.specs.declared.phases.PeerTurn.TheVariants.{More, Nothing, Resolved, GaveUp}
use Rattle.qsg_peer.specs.declared.phases.Phase.{Phase}
use Rattle.qsg_peer.specs.declared.phases.Phase.TheVariants.{Find, Low, At}
use Rattle.qsg_peer.specs.declared.phases.Stage.{Stage}
use Rattle.qsg_peer.specs.declared.phases.Stage.TheVariants.{Read, Connect, Search, Settle, Resolve}
use Rattle.qsg_peer.specs.Works.{Work}
use Rattle.qsg_peer.specs.Needs.{is_read_stage}

-- how a step ended, and what it left
pub record Next : Type 0 where
  pub turn : PeerTurn
  pub work : Work
  pub parts : Owned

abbrev pub goes_on : Phase → Work → Owned → Next
goes_on phase w p = record { turn = More; work = record w { phase = phase }; parts = p }

-- ---- a failed incarnation, and the page from which it is resolved

abbrev pub life_of : Member × Incarnation → FailedLife
life_of (m, i) = record { member = m; incarnation = i }

-- the phase in which one is found
abbrev pub found_phase : Option (Member × Incarnation) → Option Phase
found_phase name = option_map (λ n. Low (life_of n)) name

-- one is found, or there is none to work on
abbrev pub after_find : Option Phase → Work → Owned → Next
after_find None w p = record { turn = Nothing; work = w; parts = p }
after_find (Some phase) w p = goes_on phase w p

-- the structure comes next, where the group has it
abbrev pub stage_at : ℕ → Option StructNo → Stage
stage_at count None = Resolve
stage_at count (Some s) = if nat_le (structure_number s) count then Connect s else Resolve

-- the structure of a number comes next, of so many; behind the last one the incarnation is resolved
abbrev pub from_structure : ℕ → ℕ → Stage
from_structure count n = stage_at count (structure_at n)

abbrev pub after_structure : ℕ → StructNo → Stage
after_structure count s = from_structure count (structure_number s + 1)

-- the walk goes on, or the first structure comes next
abbrev pub walking : ℕ → Walk → Stage
walking count walk = if walk.left == 0 then from_structure count 1 else Read

-- a walk over the log of the incarnation's member, from its low page on
abbrev pub first_walk : FailedLife → Owned → Walk
first_walk life p = new_walk (low_of life.member p.repo).number (log_in life.member p.logs).writer.size

abbrev pub with_walk : FailedLife → Walk → Work → Owned → Work
with_walk life walk w p = record w { walk = walk; phase = At life (walking (length p.structures) walk) }

abbrev pub after_low : FailedLife → Work → Owned → Next
after_low life w p = record { turn = More; work = with_walk life (first_walk life p) w p; parts = p }

-- ---- the pages of the log

abbrev pub gave_up : FailedLife → LogWhy → PeerTurn
gave_up life why = GaveUp life.member life.incarnation why

-- a page of the log of the incarnation's member was read, or reading was tried
pub record HasRead (life : FailedLife) (p q : Owned) : Type 0 where
  pub others : q ≡ record p { logs = with_log life.member (log_in life.member q.logs) p.logs }
  pub log : IsRead (log_in life.member p.logs) (log_in life.member q.logs)

-- the device failed
pub record HasFailed (life : FailedLife) (w : Work) (p : Owned) (turn : PeerTurn) (v : Work) (q : Owned) : Type 0 where
  pub cause : Rose (log_in life.member p.logs).faults (log_in life.member q.logs).faults
  pub turn_is : turn ≡ gave_up life Device
  pub work_is : v ≡ w

-- the walk was told what stands at a page of the log, and goes on
pub record HasKept (life : FailedLife) (number : ℕ) (old : Walk) (p : Owned) (new : Walk) : Type 0 where
  pub found : Option (List ℕ)
  pub page : IsFound number (log_in life.member p.logs) found
  pub walk_is : new ≡ after_read found old

-- the page is kept, or none stands there
pub record HasFound (life : FailedLife) (w : Work) (p : Owned) (turn : PeerTurn) (v : Work) : Type 0 where
  pub kept : HasKept life w.walk.next w.walk p v.walk
  pub turn_is : turn ≡ More
  pub work_is : v ≡ with_walk life v.walk w p

abbrev pub Reads : FailedLife → Work → Owned → PeerTurn → Work → Owned → Type 0
Reads life w p turn v q = HasRead life p q × (HasFailed life w p turn v q ⊎ HasFound life w p turn v)

-- ---- the marks of a structure

abbrev pub no_id : EntryId
no_id = record { number = 0 }

-- the structure is used in its present epoch, or isn't served
abbrev pub connected : StructNo → ℕ → Result Seen Lost → Stage
connected s count (Ok seen) = Search (record { structure = s; epoch = seen.connection.epoch }) no_id
connected s count (Err lost) = after_structure count s

abbrev pub after_connect : FailedLife → StructNo → Work → Owned → Next
after_connect life s w p = goes_on (At life (connected s (length p.structures) (connect_answer (structure_in s p.structures)))) w p

-- the next mark of the incarnation is found; there is none; or the structure isn't served any more
abbrev pub searched : Connection → ℕ → Result (Option MarkedEntry) Lost → Stage
searched connection count (Ok (Some found)) = Settle connection found
searched connection count (Ok None) = after_structure count connection.structure
searched connection count (Err lost) = after_structure count connection.structure

-- the answer to a search
abbrev pub search_answer : FailedLife → Connection → EntryId → Owned → Result (Option MarkedEntry) Lost
search_answer life connection after p =
    unless (lost_of (structure_in connection.structure p.structures) connection)
    (marked_above life.member life.incarnation after (structure_in connection.structure p.structures).entries)

abbrev pub after_search : FailedLife → Connection → EntryId → Work → Owned → Next
after_search life connection after w p = goes_on (At life (searched connection (length p.structures) (search_answer life connection after p))) w p

-- only a mark that came off counts, as far as the number goes
abbrev pub counted : Result Settled Lost → ℕ → ℕ
counted (Ok Done) n = min (n + 1) (2 ^ 32 - 1)
counted (Ok (NotYours mark)) n = n
counted (Err lost) n = n

abbrev pub settled_stage : Connection → EntryId → ℕ → Result Settled Lost → Stage
settled_stage connection id count (Ok settled) = Search connection id
settled_stage connection id count (Err lost) = after_structure count connection.structure

-- the answer to a settle of a mark that was found
abbrev pub mark_answer : Connection → MarkedEntry → Owned → Result Settled Lost
mark_answer connection found p = settle_answer (structure_in connection.structure p.structures) connection found.id found.unit

-- the mark is off, as the commit or the backout of its unit takes it off
abbrev pub with_mark_off : Connection → MarkedEntry → Bool → Owned → Owned
with_mark_off connection found commits p = record p {
  structures = with_structure connection.structure
      (revised_if_done (mark_answer connection found p) found.id (settled_entry commits) (structure_in connection.structure p.structures)) p.structures;
}

-- a mark comes off as the reader of the log tells of its unit
abbrev pub after_settle : FailedLife → Connection → MarkedEntry → Work → Owned → Next
after_settle life connection found w p = record {
  turn = More;
  work = record w {
    phase = At life (settled_stage connection found.id (length p.structures) (mark_answer connection found p));
    settled = counted (mark_answer connection found p) w.settled;
  };
  parts = with_mark_off connection found (is_committed found.unit w.walk.reader.commits) p;
}

-- ---- the end

abbrev pub with_resolved : FailedLife → Owned → Owned
with_resolved life p = record p { repo = resolved life.member life.incarnation p.repo }

abbrev pub after_resolve : FailedLife → Work → Owned → Next
after_resolve life w p = record { turn = Resolved life.member life.incarnation w.settled; work = w; parts = with_resolved life p }

-- ---- a step, by the phase and by how it ended

-- an action that takes no memory leaves exactly this
abbrev pub Makes : Next → Result PeerTurn NoMemory → Work → Owned → Type 0
Makes next (Ok turn) v q = record { turn = turn; work = v; parts = q } ≡ next
Makes next (Err e) v q = ⊥

-- the step's own action, with no page kept and with room for a page that it reads
abbrev pub Acts : FailedLife → Stage → Work → Owned → Result PeerTurn NoMemory → Work → Owned → Type 0
Acts life Read w p (Ok turn) v q = Reads life w p turn v q
Acts life Read w p (Err e) v q = ⊥
Acts life (Connect s) w p result v q = Makes (after_connect life s w p) result v q
Acts life (Search connection after) w p result v q = Makes (after_search life connection after w p) result v q
Acts life (Settle connection found) w p result v q = Makes (after_settle life connection found w p) result v q
Acts life Resolve w p result v q = Makes (after_resolve life w p) result v q

-- the page that was kept is bad: the step does nothing else
pub record HasGivenUp (life : FailedLife) (w : Work) (p : Owned) (result : Result PeerTurn NoMemory) (v : Work) (q : Owned) : Type 0 where
  pub why : LogWhy
  pub bad : IsBad w.walk why
  pub turn_is : result ≡ Ok (gave_up life why)
  pub work_is : v ≡ w
  pub parts_are : q ≡ p

-- memory ran out, for a page to read or while one that was kept was fed: nothing is done
pub record LacksMemory (stage : Stage) (w : Work) (p : Owned) (result : Result PeerTurn NoMemory) (v : Work) (q : Owned) : Type 0 where
  pub takes : (is_read_stage stage || is_some w.walk.kept) ≡ true
  pub refused : IsErr result
  pub work_is : v ≡ w
  pub parts_are : q ≡ p

-- the page that was kept, if one was, is fed, and then the step's own action comes
pub record HasActed (life : FailedLife) (stage : Stage) (w : Work) (p : Owned) (result : Result PeerTurn NoMemory) (v : Work) (q : Owned) : Type 0 where
  pub walk : Walk
  pub records : List LogRecord
  pub fed : Feeds w.walk records walk
  pub acts : Acts life stage (record w { walk = walk }) p result v q

abbrev pub GoesOn : FailedLife → Stage → Work → Owned → Result PeerTurn NoMemory → Work → Owned → Type 0
GoesOn life stage w p result v q = HasGivenUp life w p result v q ⊎ (LacksMemory stage w p result v q ⊎ HasActed life stage w p result v q)

abbrev pub NextAt : List (Member × Incarnation) → Phase → Work → Owned → Result PeerTurn NoMemory → Work → Owned → Type 0
NextAt skip Find w p result v q = Makes (after_find (found_phase (first_open skip p.repo.lives)) w p) result v q
NextAt skip (Low life) w p result v q = Makes (after_low life w p) result v q
NextAt skip (At life stage) w p result v q = GoesOn life stage w p result v q

-- one step of a peer's work, which leaves out these incarnations when it looks for one
abbrev pub NextPeer : List (Member × Incarnation) → Work → Owned → Result PeerTurn NoMemory → Work → Owned → Type 0
NextPeer skip w p result v q = NextAt skip w.phase w p result v q
