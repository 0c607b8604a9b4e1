-- the calls that save a map
use Rattle.std.specs.Prelude.{ℕ, Option, Some, None}
use Rattle.qsg_stop.specs.declared.phases.SaveCall.{SaveCall}
use Rattle.qsg_stop.specs.declared.phases.SaveCall.TheVariants.{WriteMap, SyncMap, OpenGate, SyncGate}

abbrev pub number_of : SaveCall → ℕ
number_of WriteMap = 1
number_of SyncMap = 2
number_of OpenGate = 3
number_of SyncGate = 4

-- the one behind it, if there is one
abbrev pub call_behind : SaveCall → Option SaveCall
call_behind WriteMap = Some SyncMap
call_behind SyncMap = Some OpenGate
call_behind OpenGate = Some SyncGate
call_behind SyncGate = None
