-- what a write does to the bytes that a sink holds
use Rattle.std.specs.Prelude.{ℕ, ◌≤◌, List, length, take, Result, MatchResult, Option}
use Rattle.std.specs.Io.KnownBytes.{Appends}

-- some first bytes of the piece were appended, or none
abbrev pub AppendsFront : Option (List ℕ) → Option (List ℕ) → List ℕ → Type 0
AppendsFront old new piece = (n : ℕ) × (n ≤ length piece) × Appends old new (take n piece)

-- as many first bytes as the call says; where it failed, some or none
abbrev pub Writes : {E : Type 0} → Option (List ℕ) → Option (List ℕ) → Result ℕ E → List ℕ → Type 0
Writes old new r piece = MatchResult r (λ n. Appends old new (take n piece)) (λ _. AppendsFront old new piece)
