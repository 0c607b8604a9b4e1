-- a rig that makes devices in memory
use Rattle.std.specs.Prelude.{◌≡◌, ℕ, List, Bool, Option, None, slice_index_or}
use Rattle.qsg_num.specs.declared.seats.Member.{Member}
use Rattle.qsg_disk.specs.declared.kinds.Kind.{Kind}
use Rattle.qsg_disk_mem.specs.Places.{place_of}
use Rattle.qsg_disk_mem.specs.Calls.{is_listed}
use Rattle.qsg_disk_mem.specs.FailingCalls.{calls_for}
use Rattle.qsg_disk_mem.specs.declared.mem.MemDisk.{MemDisk}
use Rattle.qsg_disk_mem.specs.declared.rig.MemRig.{MemRig}

-- the device last given back for a member and a kind
abbrev pub given_in : MemRig → Member → Kind → Option MemDisk
given_in rig member kind = slice_index_or rig.given.items (place_of member kind) None

-- the numbers of the failing calls that it hands to a device
abbrev pub failing_for : Member → Kind → MemRig → List ℕ
failing_for member kind rig = calls_for member kind rig.failing.items

-- whether its next call of `device` fails
abbrev pub is_refusing : MemRig → Bool
is_refusing rig = is_listed rig.refuse.items rig.calls

abbrev pub rig_calls : MemRig → ℕ
rig_calls rig = rig.calls

-- its lists of calls that fail
abbrev pub SameLists : MemRig → MemRig → Type 0
SameLists old new = (new.failing.items ≡ old.failing.items) × (new.refuse.items ≡ old.refuse.items)
