-- what a device holds, and what its calls do to it
use Rattle.std.specs.Prelude.{◌≡◌, ◌⊎◌, ◌<◌, ◌+◌, ℕ, List, length, take, drop, map, Option, Some, None, IfSome, All, slice_index_or}

-- a byte of a device: its value now, and its safe value, which a power cut leaves, or none
pub record Byte : Type 0 where
  pub value : ℕ
  pub safe : Option ℕ

-- its value now
abbrev pub value_of : Byte → ℕ
value_of byte = byte.value

-- the values now
abbrev pub values : List Byte → List ℕ
values bytes = map value_of bytes

-- a byte as a write leaves it
abbrev pub written : ℕ → Byte
written value = record { value = value; safe = None }

-- a byte whose value is safe
abbrev pub safe_byte : ℕ → Byte
safe_byte value = record { value = value; safe = Some value }

-- a byte of a new device
abbrev pub zero_byte : Byte
zero_byte = safe_byte 0

-- a byte as a sync leaves it
abbrev pub synced : Byte → Byte
synced byte = safe_byte byte.value

-- the n bytes from an offset on
abbrev pub part : {X : Type 0} → ℕ → ℕ → List X → List X
part at n bytes = take n (drop at bytes)

-- none of them has a safe value
abbrev pub AreUnsafe : List Byte → Type 0
AreUnsafe bytes = All (λ b. b.safe ≡ None) bytes

-- nothing changes but the n bytes from an offset on
pub record Beside {X : Type 0} (at n : ℕ) (old new : List X) : Type 0 where
  pub before : take at new ≡ take at old
  pub after : drop (at + n) new ≡ drop (at + n) old
  pub same_length : length new ≡ length old

-- two lists of one length, related at each place
pub record EachPair (R : Byte → Byte → Type 0) (old new : List Byte) : Type 0 where
  pub same_length : length new ≡ length old
  pub at : (k : ℕ) (d : Byte) → k < length old → R (slice_index_or old k d) (slice_index_or new k d)

-- a byte after a sync that failed: as it was, or safe
abbrev pub IsKeptOrSynced : Byte → Byte → Type 0
IsKeptOrSynced old new = (new ≡ old) ⊎ (new ≡ synced old)

-- a power cut leaves the safe value, or any value where there was none, and it is safe
pub record IsCut (old new : Byte) : Type 0 where
  pub is_safe : new.safe ≡ Some new.value
  pub keeps : IfSome old.safe (λ value. new.value ≡ value)
