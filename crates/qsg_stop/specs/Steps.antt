-- what each step of a STOP does, exactly
use Rattle.std.specs.Prelude.{ℕ, true, ◌≡◌, ◌+◌, ◌-◌, nat_le, if◌then◌else◌, length, Option, Some, None, Result, Ok, Err}
use Rattle.qsg_num.specs.declared.seats.Member.{Member}
use Rattle.qsg_num.specs.declared.seats.StructNo.{StructNo}
use Rattle.qsg_num.specs.declared.words.Failed.{Failed}
use Rattle.qsg_num.specs.Faults.{HasCause}
use Rattle.qsg_num.specs.Seats.{structure_number, structure_at}
use Rattle.qsg_lists.specs.declared.parts.Connection.{Connection}
use Rattle.qsg_lists.specs.declared.parts.Lost.{Lost}
use Rattle.qsg_lists.specs.declared.parts.Seen.{Seen}
use Rattle.qsg_lists.specs.Structures.{connect_answer}
use Rattle.qsg_repo.specs.Calls.{smds_stopped, stopped as stopped_in}
use Rattle.qsg_space.specs.Spaces.{free_count}
use Rattle.qsg_dataset.specs.Steps.{SaveStep}
use Rattle.qsg_datasets.specs.Kept.{KeptSet, set_in, with_set, stands, used_in, emptied_all}
use Rattle.qsg_datasets.specs.Calls.{IsStorageSame}
use Rattle.qsg_manager.specs.Facilities.{structure_in}
use Rattle.qsg_manager.specs.Seats.{with_down}
use Rattle.qsg_logs.specs.Cuts.{restarted}
use Rattle.qsg_logs.specs.Kept.{log_in, with_log}
use Rattle.qsg_parts.specs.Owned.{Owned}
use Rattle.qsg_stop.specs.declared.phases.Phase.{Phase}
use Rattle.qsg_stop.specs.declared.phases.Phase.TheVariants.{Connect, Save, Tell, Last}
use Rattle.qsg_stop.specs.declared.phases.SaveCall.{SaveCall}
use Rattle.qsg_stop.specs.declared.phases.SaveCall.TheVariants.{WriteMap}
use Rattle.qsg_stop.specs.declared.phases.StopTurn.{StopTurn}
use Rattle.qsg_stop.specs.declared.phases.StopTurn.TheVariants.{More, Stopped}
use Rattle.qsg_stop.specs.declared.work.StopWork.{StopWork}
use Rattle.qsg_stop.specs.Calls.{number_of, call_behind}

-- how a step ended, and what it left
pub record Next : Type 0 where
  pub turn : StopTurn
  pub work : StopWork
  pub parts : Owned

abbrev pub with_phase : Phase → StopWork → StopWork
with_phase phase w = record w { phase = phase }

-- the structure comes next, where the group has it; behind the last one the member's storage goes
abbrev pub structure_next : ℕ → Option StructNo → Phase
structure_next count None = Last
structure_next count (Some s) = if nat_le (structure_number s) count then Connect s else Last

abbrev pub from_structure : ℕ → ℕ → Phase
from_structure count n = structure_next count (structure_at n)

abbrev pub after_structure : ℕ → StructNo → Phase
after_structure count s = from_structure count (structure_number s + 1)

-- ---- the member goes down

-- its tasks hold nothing then, and nothing of its log is reserved; it keeps its maps
abbrev pub begun : Member → Owned → Owned
begun m p = record p {
  managers = with_down m p.managers;
  logs = with_log m (restarted (log_in m p.logs).writer.next (log_in m p.logs)) p.logs;
}

-- the first structure comes next
abbrev pub new_work : Member → Owned → StopWork
new_work m p = record { member = m; phase = from_structure (length p.structures) 1 }

-- ---- a structure

-- its map is saved next, where it stands for the present epoch
abbrev pub connected : StructNo → ℕ → KeptSet → Result Seen Lost → Phase
connected s count set (Ok seen) = if stands seen.connection.epoch set then Save (record { structure = s; epoch = seen.connection.epoch }) WriteMap else after_structure count s
connected s count set (Err lost) = after_structure count s

abbrev pub after_connect : StructNo → StopWork → Owned → Next
after_connect s w p = record {
  turn = More;
  work = with_phase (connected s (length p.structures) (set_in w.member s p.datasets) (connect_answer (structure_in s p.structures))) w;
  parts = p;
}

-- ---- the map is saved

-- the call behind comes next; after the last one, or where one failed, the repository is told
abbrev pub behind : Connection → Option SaveCall → Phase
behind connection None = Tell connection
behind connection (Some call) = Save connection call

abbrev pub saved_phase : Connection → SaveCall → Result (Unit {0}) Failed → Phase
saved_phase connection call (Ok done) = behind connection (call_behind call)
saved_phase connection call (Err failed) = Tell connection

-- a call that saves the map that stands for an epoch was made on a data set
pub record IsSaveCall (call : SaveCall) (epoch : ℕ) (answer : Result (Unit {0}) Failed) (old new : KeptSet) : Type 0 where
  pub same : IsStorageSame old new
  pub cause : HasCause old.contents.faults new.contents.faults answer
  pub step : old.contents.tells ≡ true → SaveStep (number_of call) epoch (used_in epoch old) answer old.contents.bytes new.contents.bytes

-- on the member's data set for the structure, and on nothing else
pub record HasSaved (connection : Connection) (call : SaveCall) (w : StopWork) (p : Owned) (turn : StopTurn) (v : StopWork) (q : Owned) : Type 0 where
  pub answer : Result (Unit {0}) Failed
  pub call_is : IsSaveCall call connection.epoch answer (set_in w.member connection.structure p.datasets) (set_in w.member connection.structure q.datasets)
  pub others : q ≡ record p { datasets = with_set w.member connection.structure (set_in w.member connection.structure q.datasets) p.datasets }
  pub turn_is : turn ≡ More
  pub work_is : v ≡ with_phase (saved_phase connection call answer) w

-- ---- the repository is told

-- the used blocks of the map
abbrev pub used_of : ℕ → KeptSet → ℕ
used_of epoch set = set.contents.blocks - free_count (used_in epoch set)

abbrev pub after_tell : Connection → StopWork → Owned → Next
after_tell connection w p = record {
  turn = More;
  work = with_phase (after_structure (length p.structures) connection.structure) w;
  parts = record p { repo = smds_stopped w.member connection.structure (used_of connection.epoch (set_in w.member connection.structure p.datasets)) p.repo };
}

-- ---- the end

-- the incarnation has stopped, and the maps are gone
abbrev pub ended : Member → Owned → Owned
ended m p = record p { repo = stopped_in m p.repo; datasets = emptied_all m p.datasets }

abbrev pub after_last : StopWork → Owned → Next
after_last w p = record { turn = Stopped; work = w; parts = ended w.member p }

-- ---- a step, by the phase

abbrev pub NextAt : Phase → StopWork → Owned → StopTurn → StopWork → Owned → Type 0
NextAt (Connect s) w p turn v q = record { turn = turn; work = v; parts = q } ≡ after_connect s w p
NextAt (Save connection call) w p turn v q = HasSaved connection call w p turn v q
NextAt (Tell connection) w p turn v q = record { turn = turn; work = v; parts = q } ≡ after_tell connection w p
NextAt Last w p turn v q = record { turn = turn; work = v; parts = q } ≡ after_last w p

-- one step of a STOP
abbrev pub NextStop : StopWork → Owned → StopTurn → StopWork → Owned → Type 0
NextStop w p turn v q = NextAt w.phase w p turn v q
