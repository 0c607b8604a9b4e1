-- the devices of a group, by their members and kinds, and what a rig is given back
use Rattle.std.specs.Prelude.{ℕ, ◌≡◌, ◌+◌, ◌-◌, ◌*◌, ◌<◌, ◌≤◌, ◌==◌, if◌then◌else◌, List, length, slice_get, Option, Some, None, option_map, IsSomeAnd}
use Rattle.qsg_num.specs.declared.seats.Member.{Member}
use Rattle.qsg_num.specs.declared.seats.StructNo.{StructNo}
use Rattle.qsg_num.specs.Seats.{member_number, structure_number}
use Rattle.qsg_disk.specs.Byte.{Byte}
use Rattle.qsg_disk.specs.Places.{kind_number}
use Rattle.qsg_disk.specs.declared.kinds.Kind.{Kind}
use Rattle.qsg_disk.specs.declared.kinds.Kind.TheVariants.{Log, DataSet}
use Rattle.qsg_logs.specs.Kept.{KeptLog}
use Rattle.qsg_datasets.specs.Kept.{KeptSet, sets_of}

-- Devices go by their members; of a member its log comes first, and then its data sets by their structures.
abbrev pub place_number : Member → Kind → ℕ
place_number m k = member_number m * 5 + kind_number k

abbrev pub IsEarlier : Member → Kind → Member → Kind → Type 0
IsEarlier n l m k = place_number n l < place_number m k

-- a device is one of a group of so many members and structures
pub record IsDeviceOf (members structures : ℕ) (m : Member) (k : Kind) : Type 0 where
  pub member : member_number m ≤ members
  pub kind : kind_number k ≤ structures

-- All devices before this one, which is one of so many structures, were made, and it wasn't: these are the logs and the
-- data sets of the members, but for the data sets of this one's member.
pub record IsStopped (structures : ℕ) (m : Member) (k : Kind) (logs : List KeptLog) (rows : List (List KeptSet)) : Type 0 where
  pub kind : kind_number k ≤ structures
  pub next : member_number m ≡ length rows + 1
  pub before : member_number m ≤ length logs + 1
  pub log : 0 < kind_number k → member_number m ≤ length logs

-- ---- the bytes of a device, if it is there

-- among logs
abbrev pub logs_bytes : List KeptLog → Member → Kind → Option (List Byte)
logs_bytes logs m Log = option_map (λ (log : KeptLog). log.bytes) (slice_get logs (member_number m - 1))
logs_bytes logs m (DataSet s) = None

-- among the data sets of one member
abbrev pub set_bytes : List KeptSet → StructNo → Option (List Byte)
set_bytes row s = option_map (λ (set : KeptSet). set.contents.bytes) (slice_get row (structure_number s - 1))

abbrev pub row_bytes : Member → List KeptSet → Member → Kind → Option (List Byte)
row_bytes member row m Log = None
row_bytes member row m (DataSet s) = if member_number m == member_number member then set_bytes row s else None

-- among the data sets of all members
abbrev pub rows_bytes : List (List KeptSet) → Member → Kind → Option (List Byte)
rows_bytes rows m Log = None
rows_bytes rows m (DataSet s) = set_bytes (sets_of m rows) s

-- among all of them
abbrev pub device_bytes : List KeptLog → List (List KeptSet) → Member → Kind → Option (List Byte)
device_bytes logs rows m Log = logs_bytes logs m Log
device_bytes logs rows m (DataSet s) = rows_bytes rows m (DataSet s)

-- ---- what is given back

-- a device that was there is given back with its bytes; where none was, the rig has what it had
abbrev pub IsGivenBack : {X : Type 0} → (X → List Byte) → Option (List Byte) → Option X → Option X → Type 0
IsGivenBack bytes None old new = new ≡ old
IsGivenBack bytes (Some b) old new = IsSomeAnd new (λ d. bytes d ≡ b)

-- so it is at each place
abbrev pub AreGivenBack : {X : Type 0} → (X → List Byte) → (Member → Kind → Option (List Byte)) → (Member → Kind → Option X) → (Member → Kind → Option X) → Type 0
AreGivenBack bytes there old new = (m : Member) (k : Kind) → IsGivenBack bytes (there m k) (old m k) (new m k)

-- each member has at most four data sets
abbrev pub HaveFour : List (List KeptSet) → Type 0
HaveFour rows = (m : Member) → member_number m ≤ length rows → length (sets_of m rows) ≤ 4
