-- the body of a put
use Rattle.std.specs.Prelude.{ℕ, ◌%◌, ◌≤◌, List, map}
use Rattle.std.specs.List.{range_with_len}
use Rattle.qsg_objects.specs.declared.directives.BodyWord.{BodyWord}
use Rattle.qsg_objects.specs.declared.directives.BodyWord.TheVariants.{Given, Size}

-- the byte at a place of a body that is given by its size
abbrev pub byte_at : ℕ → ℕ
byte_at i = i % 251

abbrev pub sized : ℕ → List ℕ
sized n = map byte_at (range_with_len 0 n)

abbrev pub body_of : BodyWord → List ℕ
body_of (Given bytes) = bytes
body_of (Size n) = sized n

-- a size is at most that of the longest body
abbrev pub IsSized : BodyWord → Type 0
IsSized (Given bytes) = Unit {0}
IsSized (Size n) = n ≤ 4194304
