-- where bytes leave a grammar
use Rattle.std.specs.Prelude.{ℕ, ◌≤◌, List, ◌++◌, length, take}

-- the bytes begin a spelling, or are one
abbrev pub Begins : (List ℕ → Type 0) → List ℕ → Type 0
Begins Spells front = (rest : List ℕ) × Spells (front ++ rest)

-- the greatest length of a prefix of the input that begins a spelling
pub record IsFaultPlace (Spells : List ℕ → Type 0) (input : List ℕ) (at : ℕ) : Type 0 where
  pub within : at ≤ length input
  pub begins : Begins Spells (take at input)
  pub greatest : (n : ℕ) → n ≤ length input → Begins Spells (take n input) → n ≤ at
