-- how far a map is saved
use Rattle.std.specs.Prelude.{ℕ, ◌≡◌, true, List, [], ◌∷◌, map, Ok}
use Rattle.qsg_num.specs.declared.seats.Member.{Member}
use Rattle.qsg_num.specs.declared.words.Failed.{Failed}
use Rattle.qsg_disk.specs.Byte.{Byte, safe_byte}
use Rattle.qsg_dataset.specs.Contents.{gate_of, IsReady, IsSaved}
use Rattle.qsg_dataset.specs.Steps.{SaveStep}
use Rattle.qsg_datasets.specs.Kept.{KeptSet, set_in, used_in}
use Rattle.qsg_parts.specs.Owned.{Owned}
use Rattle.qsg_stop.specs.declared.phases.Phase.{Phase}
use Rattle.qsg_stop.specs.declared.phases.Phase.TheVariants.{Connect, Save, Tell, Last}
use Rattle.qsg_stop.specs.declared.phases.SaveCall.{SaveCall}
use Rattle.qsg_stop.specs.declared.phases.SaveCall.TheVariants.{WriteMap, SyncMap, OpenGate, SyncGate}
use Rattle.qsg_stop.specs.Calls.{number_of}

-- these bytes are what a call that succeeded left
pub record HasMade (call : SaveCall) (epoch : ℕ) (set : KeptSet) : Type 0 where
  pub old : List Byte
  pub done : Unit {0}
  pub step : SaveStep {E = Failed} (number_of call) epoch (used_in epoch set) (Ok done) old set.contents.bytes

-- the map that stands for the epoch is spelled behind the gate, and safely so
abbrev pub IsMapSafe : ℕ → KeptSet → Type 0
IsMapSafe epoch set = IsReady epoch (used_in epoch set) set.contents.bytes

-- what holds before a call: the map is written before it is made safe, and safe before the gate is opened
abbrev pub IsSavedTo : SaveCall → ℕ → KeptSet → Type 0
IsSavedTo WriteMap epoch set = Unit {0}
IsSavedTo SyncMap epoch set = HasMade WriteMap epoch set
IsSavedTo OpenGate epoch set = IsMapSafe epoch set
IsSavedTo SyncGate epoch set = IsMapSafe epoch set × HasMade OpenGate epoch set

-- where the device tells its bytes
abbrev pub IsSavedAt : Phase → Member → Owned → Type 0
IsSavedAt (Connect s) m p = Unit {0}
IsSavedAt (Save connection call) m p = (set_in m connection.structure p.datasets).contents.tells ≡ true → IsSavedTo call connection.epoch (set_in m connection.structure p.datasets)
IsSavedAt (Tell connection) m p = Unit {0}
IsSavedAt Last m p = Unit {0}

-- The header is the saved map that stands for the epoch, and a power cut leaves it so.
pub record IsSafelySaved (epoch : ℕ) (set : KeptSet) : Type 0 where
  pub saved : IsSaved epoch set.contents.blocks (used_in epoch set) set.contents.bytes
  pub spelled : IsMapSafe epoch set
  pub gate : gate_of set.contents.bytes ≡ map safe_byte (1 ∷ [])

-- a step of another actor left the member's data sets so: it read blocks at most
pub record IsReadAt (old new : KeptSet) : Type 0 where
  pub map : new.map ≡ old.map
  pub blocks : new.contents.blocks ≡ old.contents.blocks
  pub tells : new.contents.tells ≡ old.contents.tells
  pub bytes : old.contents.tells ≡ true → new.contents.bytes ≡ old.contents.bytes
