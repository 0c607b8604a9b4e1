-- the sizes of structures, and the bytes of all devices
use Rattle.std.specs.Prelude.{ℕ, ◌+◌, ◌*◌, ◌/◌, List, length, find, sum_by, Option, Some, None}
use Rattle.qsg_num.specs.declared.seats.StructNo.{StructNo}
use Rattle.qsg_objects.specs.declared.plans.MemberDef.{MemberDef}
use Rattle.qsg_objects.specs.declared.plans.Size.{Size}
use Rattle.qsg_objects.specs.declared.registry.Cfstruct.{Cfstruct}
use Rattle.qsg_objects.specs.Registry.{structure_numbered}
use Rattle.qsg_draft.specs.Contents.{Contents}
use Rattle.qsg_draft.specs.Lookups.{is_facility}

-- how many whole blocks of a structure's data sets are in so many bytes; none where there is no such structure
abbrev pub blocks_of : Option Cfstruct → ℕ → ℕ
blocks_of None bytes = 0
blocks_of (Some s) bytes = bytes / s.definition.dsblock

abbrev pub blocks_in : StructNo → ℕ → Contents → ℕ
blocks_in s bytes c = blocks_of (structure_numbered s c.objects) bytes

-- the size of a structure without a FACILITY: 65,536 elements, and the blocks of 16 MiB
abbrev pub default_size : Cfstruct → Size
default_size s = record { elements = 65536; blocks = blocks_of (Some s) 16777216 }

abbrev pub size_or : Option (StructNo × Size) → Size → Size
size_or None size = size
size_or (Some f) size = f.1

-- the size of a structure
abbrev pub size_of : List (StructNo × Size) → Cfstruct → Size
size_of facilities s = size_or (find (is_facility s.number) facilities) (default_size s)

-- the bytes of a data set of a structure: its header, and its blocks
abbrev pub data_set_bytes : List (StructNo × Size) → Cfstruct → ℕ
data_set_bytes facilities s = 4096 + (size_of facilities s).blocks * s.definition.dsblock

abbrev pub log_bytes : MemberDef → ℕ
log_bytes m = m.log_pages * 4096

-- the bytes of all devices: each member has a log, and a data set of each structure
abbrev pub device_bytes : Contents → ℕ
device_bytes c = sum_by log_bytes c.members + length c.members * sum_by (data_set_bytes c.facilities) c.objects.structures
