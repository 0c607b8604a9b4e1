-- a device in memory
use Rattle.std.specs.Prelude.{◌≡◌, ℕ, ◌+◌, ◌-◌, ◌^◌, List, Bool, if◌then◌else◌, length, map, min, replicate}
use Rattle.qsg_disk.specs.Byte.{Byte, Beside, part}
use Rattle.qsg_disk_mem.specs.Calls.{is_listed}
use Rattle.qsg_disk_mem.specs.Cells.{Cell, byte_of, zero_cell, doubted, all_overwritten}
use Rattle.qsg_disk_mem.specs.declared.mem.MemDisk.{MemDisk}

-- its bytes
abbrev pub cells_in : MemDisk → List Cell
cells_in disk = disk.cells

-- what it tells of them
abbrev pub bytes_in : MemDisk → List Byte
bytes_in disk = map byte_of disk.cells

-- how often it was called
abbrev pub calls_of : MemDisk → ℕ
calls_of disk = disk.calls

-- the numbers of its calls that fail
abbrev pub failing_of : MemDisk → List ℕ
failing_of disk = disk.failing.items

-- whether its next call fails
abbrev pub is_failing : MemDisk → Bool
is_failing disk = is_listed disk.failing.items disk.calls

-- a call was counted; the count stands still at the end of its type
abbrev pub IsCounted : MemDisk → MemDisk → Type 0
IsCounted old new = (calls_of new ≡ min (calls_of old + 1) (2 ^ 32 - 1)) × (failing_of new ≡ failing_of old)

-- a device of zeros that was never called
abbrev pub IsNew : ℕ → List ℕ → MemDisk → Type 0
IsNew size failing disk = (cells_in disk ≡ replicate size zero_cell) × (calls_of disk ≡ 0) × (failing_of disk ≡ failing)

-- A write: a failed one leaves its range untouched and in doubt. Bytes that were in doubt keep their older old values.
pub record IsWritten (at : ℕ) (from : List ℕ) (old new : MemDisk) : Type 0 where
  pub beside : Beside at (length from) (cells_in old) (cells_in new)
  pub range : part at (length from) (cells_in new) ≡ (if is_failing old then map doubted (part at (length from) (cells_in old)) else all_overwritten from (part at (length from) (cells_in old)))
