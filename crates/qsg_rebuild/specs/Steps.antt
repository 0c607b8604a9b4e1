-- what each step of a rebuild does, exactly
use Rattle.std.specs.Prelude.{ℕ, Bool, true, false, ◌≡◌, ◌≤◌, ◌==◌, Option, Some, None, Result, Ok, Err, if◌then◌else◌, find}
use Rattle.qsg_num.specs.declared.seats.Member.{Member}
use Rattle.qsg_num.specs.declared.seats.StructNo.{StructNo}
use Rattle.qsg_num.specs.declared.ids.EntryId.{EntryId}
use Rattle.qsg_num.specs.Seats.{member_number}
use Rattle.qsg_num.specs.Faults.{HasCause}
use Rattle.qsg_lists.specs.declared.parts.Connection.{Connection}
use Rattle.qsg_lists.specs.declared.parts.Entry.{Entry}
use Rattle.qsg_lists.specs.declared.parts.Lost.{Lost}
use Rattle.qsg_lists.specs.declared.parts.Place.{Place}
use Rattle.qsg_lists.specs.declared.parts.Place.TheVariants.{Inline, Offloaded}
use Rattle.qsg_lists.specs.declared.parts.Seen.{Seen}
use Rattle.qsg_lists.specs.Entries.{is_above}
use Rattle.qsg_lists.specs.Structures.{ListStructure, connect_answer, lost_of, unless}
use Rattle.qsg_manager.specs.Facilities.{structure_in}
use Rattle.qsg_dataset.specs.Steps.{ShutStep}
use Rattle.qsg_datasets.specs.declared.member_data_set.Found.{Found}
use Rattle.qsg_datasets.specs.Kept.{KeptSet, IsKept, set_in, with_set, claimed, unmapped}
use Rattle.qsg_datasets.specs.Calls.{IsStorageSame, IsLoaded}
use Rattle.qsg_parts.specs.Owned.{Owned}
use Rattle.qsg_rebuild.specs.declared.phases.Phase.{Phase}
use Rattle.qsg_rebuild.specs.declared.phases.Phase.TheVariants.{Connect, Load, Scan, Shut, Sync}
use Rattle.qsg_rebuild.specs.declared.phases.RebuildTurn.{RebuildTurn}
use Rattle.qsg_rebuild.specs.declared.phases.RebuildTurn.TheVariants.{More, Done}
use Rattle.qsg_rebuild.specs.declared.phases.RebuildError.{RebuildError}
use Rattle.qsg_rebuild.specs.declared.phases.RebuildError.TheVariants.{NoMemory, Failed}
use Rattle.qsg_rebuild.specs.declared.work.RebuildWork.{RebuildWork}

-- its structure, and its member's data set for it
abbrev pub structure_of : RebuildWork → Owned → ListStructure
structure_of w p = structure_in w.structure p.structures

abbrev pub set_of : RebuildWork → Owned → KeptSet
set_of w p = set_in w.member w.structure p.datasets

abbrev pub with_set_of : RebuildWork → KeptSet → Owned → Owned
with_set_of w set p = record p { datasets = with_set w.member w.structure set p.datasets }

-- before its first step
abbrev pub new_work : Member → StructNo → RebuildWork
new_work m s = record { member = m; structure = s; phase = Connect }

abbrev pub at_phase : Phase → RebuildWork → RebuildWork
at_phase phase w = record w { phase = phase }

-- the rebuild is of the same map
pub record IsSamePlace (w v : RebuildWork) : Type 0 where
  pub member : v.member ≡ w.member
  pub structure : v.structure ≡ w.structure

-- how a step ended, and what it left
pub record Next : Type 0 where
  pub turn : RebuildTurn
  pub work : RebuildWork
  pub parts : Owned

-- a step that takes no memory and no call on the device leaves exactly this
abbrev pub Makes : Next → Result RebuildTurn RebuildError → RebuildWork → Owned → Type 0
Makes next (Ok turn) v q = record { turn = turn; work = v; parts = q } ≡ next
Makes next (Err e) v q = ⊥

-- ---- the structure

-- its header is read for the epoch that is told, and a map that was left goes
abbrev pub loading : Result Seen Lost → Phase
loading (Ok seen) = Load seen.connection.epoch true
loading (Err lost) = Load lost.epoch false

abbrev pub after_connect : RebuildWork → Owned → Next
after_connect w p = record { turn = More; work = at_phase (loading (connect_answer (structure_of w p))) w; parts = with_set_of w (unmapped (set_of w p)) p }

-- ---- the header

-- a gate that reads 0 isn't written
abbrev pub shutting : Bool → Phase
shutting true = Shut
shutting false = Sync

-- entries are gone through where a map is wanted and none was saved
abbrev pub loaded_phase : Bool → ℕ → Found → Phase
loaded_phase true epoch found = if found.has_map then shutting found.gate_open else Scan epoch (record { number = 0 }) found.gate_open
loaded_phase false epoch found = shutting found.gate_open

-- the map goes where the structure serves no user
abbrev pub kept_if : Bool → KeptSet → KeptSet
kept_if true set = set
kept_if false set = unmapped set

pub record LoadsMap (epoch : ℕ) (is_served : Bool) (found : Found) (old new : KeptSet) : Type 0 where
  pub made : KeptSet
  pub loaded : IsLoaded epoch found old made
  pub later : old.contents.faults ≤ made.contents.faults
  pub kept : IsKept made
  pub new_is : new ≡ kept_if is_served made

-- the header was read, and what was found says what comes next
pub record HasLoaded (epoch : ℕ) (is_served : Bool) (w : RebuildWork) (p : Owned) (turn : RebuildTurn) (v : RebuildWork) (q : Owned) : Type 0 where
  pub found : Found
  pub loaded : LoadsMap epoch is_served found (set_of w p) (set_of w q)
  pub others : q ≡ with_set_of w (set_of w q) p
  pub turn_is : turn ≡ More
  pub work_is : v ≡ at_phase (loaded_phase is_served epoch found) w

-- a call on the device of the data set, which changes nothing besides
pub record HasCalled (w : RebuildWork) (p : Owned) (result : Result RebuildTurn RebuildError) (q : Owned) : Type 0 where
  pub others : q ≡ with_set_of w (set_of w q) p
  pub storage : IsStorageSame (set_of w p) (set_of w q)
  pub cause : HasCause (set_of w p).contents.faults (set_of w q).contents.faults result

-- reading failed: the bytes are as they were
pub record HasFailed (w : RebuildWork) (p : Owned) (v : RebuildWork) (q : Owned) : Type 0 where
  pub called : HasCalled w p (Err Failed) q
  pub bytes : (set_of w p).contents.tells ≡ true → (set_of w q).contents.bytes ≡ (set_of w p).contents.bytes
  pub work_is : v ≡ w

-- ---- the entries

abbrev pub connection_of : RebuildWork → ℕ → Connection
connection_of w epoch = record { structure = w.structure; epoch = epoch }

-- the next entry, where the structure serves users in that epoch
abbrev pub scan_answer : RebuildWork → ℕ → EntryId → Owned → Result (Option Entry) Lost
scan_answer w epoch after p = unless (lost_of (structure_of w p) (connection_of w epoch)) (find (is_above after) (structure_of w p).entries)

-- the blocks that a body of this owner takes are used
abbrev pub claimed_by : Member → Place → KeptSet → KeptSet
claimed_by m (Inline body) set = set
claimed_by m (Offloaded owner blocks length) set = if member_number owner == member_number m then claimed blocks set else set

abbrev pub scanned : Result (Option Entry) Lost → ℕ → Bool → RebuildWork → Owned → Next
scanned (Ok (Some e)) epoch is_open w p = record { turn = More; work = at_phase (Scan epoch e.id is_open) w; parts = with_set_of w (claimed_by w.member e.place (set_of w p)) p }
scanned (Ok None) epoch is_open w p = record { turn = More; work = at_phase (shutting is_open) w; parts = p }
scanned (Err lost) epoch is_open w p = record { turn = More; work = at_phase (shutting is_open) w; parts = with_set_of w (unmapped (set_of w p)) p }

abbrev pub after_scan : ℕ → EntryId → Bool → RebuildWork → Owned → Next
after_scan epoch after is_open w p = scanned (scan_answer w epoch after p) epoch is_open w p

-- ---- the gate

-- a call that succeeds leaves this, and one that fails leaves the work as it was
abbrev pub Ends : RebuildTurn → RebuildWork → RebuildWork → Result RebuildTurn RebuildError → RebuildWork → Type 0
Ends wanted after w (Ok turn) v = (turn ≡ wanted) × (v ≡ after)
Ends wanted after w (Err e) v = (e ≡ Failed) × (v ≡ w)

-- one of the two calls that shut the gate
pub record HasShut (at : ℕ) (w : RebuildWork) (p : Owned) (result : Result RebuildTurn RebuildError) (q : Owned) : Type 0 where
  pub called : HasCalled w p result q
  pub step : (set_of w p).contents.tells ≡ true → ShutStep at result (set_of w p).contents.bytes (set_of w q).contents.bytes

-- ---- a step, by the phase and by how it ended

abbrev pub Loads : ℕ → Bool → RebuildWork → Owned → Result RebuildTurn RebuildError → RebuildWork → Owned → Type 0
Loads epoch is_served w p (Ok turn) v q = HasLoaded epoch is_served w p turn v q
Loads epoch is_served w p (Err NoMemory) v q = (v ≡ w) × (q ≡ p)
Loads epoch is_served w p (Err Failed) v q = HasFailed w p v q

abbrev pub NextAt : Phase → RebuildWork → Owned → Result RebuildTurn RebuildError → RebuildWork → Owned → Type 0
NextAt Connect w p result v q = Makes (after_connect w p) result v q
NextAt (Load epoch is_served) w p result v q = Loads epoch is_served w p result v q
NextAt (Scan epoch after is_open) w p result v q = Makes (after_scan epoch after is_open w p) result v q
NextAt Shut w p result v q = HasShut 1 w p result q × Ends More (at_phase Sync w) w result v
NextAt Sync w p result v q = HasShut 2 w p result q × Ends Done w w result v

-- one step of a rebuild
abbrev pub NextRebuild : RebuildWork → Owned → Result RebuildTurn RebuildError → RebuildWork → Owned → Type 0
NextRebuild w p result v q = NextAt w.phase w p result v q
