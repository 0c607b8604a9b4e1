-- the lap of a body
use Rattle.std.proofs.Common.{◌≡◌, ℕ, ◌<◌, ◌≤◌, ◌^◌, List, [], ◌∷◌, length, arith}
use Rattle.std.proofs.lemmas.Nat.{from_be_bytes-to_be_bytes_4}
use Rattle.qsg_logpage.specs.Page.{lap_of, with_lap}

pub lap_of-with_lap : (lap : ℕ) (body : List ℕ) → lap < 2 ^ 32 → 3 ≤ length body → lap_of (with_lap lap body) ≡ lap
lap_of-with_lap lap [] fits long = absurd (omega arith)
lap_of-with_lap lap (a ∷ []) fits long = absurd (omega arith)
lap_of-with_lap lap (a ∷ b ∷ []) fits long = absurd (omega arith)
lap_of-with_lap lap (a ∷ b ∷ c ∷ body) fits long = from_be_bytes-to_be_bytes_4 lap fits
