-- marks of one bit each, eight in a byte
use Rattle.std.specs.Prelude.{◌≡◌, ℕ, ◌/◌, ◌%◌, ◌<◌, ◌≤◌, List, Bool, true, ◌==◌, slice_index}
use Rattle.std.specs.Int.{bit_at}

-- whether a place is marked
abbrev pub is_marked : List ℕ → ℕ → Bool
is_marked bits k = bit_at (slice_index bits (k / 8)) (k % 8) == 1

-- no place is marked but those from a first one on and below a last one
abbrev pub AreMarkedWithin : ℕ → ℕ → List ℕ → Type 0
AreMarkedWithin low high bits = (k : ℕ) → is_marked bits k ≡ true → (low ≤ k) × (k < high)
