-- what a rebuild knows of the gate of its header
use Rattle.std.specs.Prelude.{◌≡◌, ◌≢◌, Bool, true, false, List, [], ◌∷◌, length, Option, Some, None}
use Rattle.qsg_disk.specs.Byte.{Byte, values}
use Rattle.qsg_dataset.specs.Contents.{Contents, extent_of, gate_of, gate_value}
use Rattle.qsg_rebuild.specs.declared.phases.Phase.{Phase}
use Rattle.qsg_rebuild.specs.declared.phases.Phase.TheVariants.{Connect, Load, Scan, Shut, Sync}

-- whether it is open, once the header was read
abbrev pub gate_at : Phase → Option Bool
gate_at Connect = None
gate_at (Load epoch is_served) = None
gate_at (Scan epoch after is_open) = Some is_open
gate_at Shut = Some true
gate_at Sync = Some false

-- an open gate isn't 0, and a shut one reads 0
abbrev pub IsGate : Option Bool → List Byte → Type 0
IsGate None bytes = Unit {0}
IsGate (Some true) bytes = gate_value bytes ≢ 0
IsGate (Some false) bytes = values (gate_of bytes) ≡ 0 ∷ []

abbrev pub KnowsGate : Phase → List Byte → Type 0
KnowsGate phase bytes = IsGate (gate_at phase) bytes

-- a device that tells its bytes tells all of them
abbrev pub IsWhole : Contents → Type 0
IsWhole contents = contents.tells ≡ true → length contents.bytes ≡ extent_of contents
