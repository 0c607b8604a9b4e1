-- what the fields of a device in memory keep
use Rattle.std.specs.Prelude.{◌≡◌, ◌<◌, ◌≤◌, ◌*◌, ◌^◌, ℕ, List, length}
use Rattle.qsg_disk_mem.specs.Bits.{AreMarkedWithin}

-- Each byte has an old value and a mark of doubt, and what is in doubt lies within bounds.
pub record IsSound (values kept doubt : List ℕ) (low high : ℕ) : Type 0 where
  pub kept_length : length kept ≡ length values
  pub doubt_length : length values ≤ 8 * length doubt
  pub small : length values < 2 ^ 32
  pub order : low ≤ high
  pub within : high ≤ length values
  pub marked : AreMarkedWithin low high doubt
