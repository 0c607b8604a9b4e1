-- What readers of pages give: a value and the bytes after it, or how many bytes are left where the grammar
-- is left.
use Rattle.std.specs.Prelude.{ℕ, zero, suc, ◌+◌, ◌-◌, ◌*◌, ◌==◌, ◌||◌, ◌&&◌, Bool, List, [], ◌∷◌, length, Option, Some, None, Result, Ok, nat_le}
use Rattle.qsg_msg.specs.Reading.{◌>>=◌, choice_at, tested, bytes_at, passing_at}
use Rattle.qsg_logrec.specs.declared.piece.Part.{Part}
use Rattle.qsg_logrec.specs.declared.piece.Part.TheVariants.{Only, First, Middle, Last}
use Rattle.qsg_logrec.specs.declared.piece.Piece.{Piece}
use Rattle.qsg_logrec.specs.Pages.{is_version}

-- the part of a number, if there is one
abbrev pub part_of : ℕ → Option Part
part_of zero = None
part_of (suc zero) = Some Only
part_of (suc (suc zero)) = Some First
part_of (suc (suc (suc zero))) = Some Middle
part_of (suc (suc (suc (suc zero)))) = Some Last
part_of (suc (suc (suc (suc (suc n))))) = None

-- a piece of this length leaves room for no piece, or for one more
abbrev pub fits_in : ℕ → ℕ → Bool
fits_in room len = nat_le 1 len && ((len + 3 == room) || nat_le (len + 7) room)

abbrev pub is_high : ℕ → ℕ → Bool
is_high room high = nat_le (high * 256 + 3) room

abbrev pub is_low : ℕ → ℕ → ℕ → Bool
is_low room high low = fits_in room (high * 256 + low)

-- the length of a piece where so many bytes of the area in use are left
unfoldable pub length_in : ℕ → List ℕ → Result (ℕ × List ℕ) ℕ
length_in room bytes = do
  high ← choice_at (tested (is_high room)) bytes
  low ← choice_at (tested (is_low room high.0)) high.1
  Ok (high.0 * 256 + low.0, low.1)

unfoldable pub piece_at : ℕ → List ℕ → Result (Piece × List ℕ) ℕ
piece_at room bytes = do
  part ← choice_at part_of bytes
  len ← length_in room part.1
  text ← bytes_at len.0 len.1
  Ok (record { part = part.0; bytes = text.0 }, text.1)

-- the pieces that fill so many bytes, not more than `most`
abbrev pub pieces_at : ℕ → ℕ → List ℕ → Result (List Piece × List ℕ) ℕ
pieces_at zero room bytes = Ok ([], bytes)
pieces_at (suc most) zero bytes = Ok ([], bytes)
pieces_at (suc most) (suc room) bytes = do
  piece ← piece_at (suc room) bytes
  pieces ← pieces_at most (suc room - (3 + length piece.0.bytes)) piece.1
  Ok (piece.0 ∷ pieces.0, pieces.1)

abbrev pub is_used_high : ℕ → Bool
is_used_high high = nat_le high 15

abbrev pub is_used_low : ℕ → ℕ → Bool
is_used_low high low = nat_le 4 (high * 256 + low) && nat_le (high * 256 + low) 4088

unfoldable pub used_at : List ℕ → Result (ℕ × List ℕ) ℕ
used_at bytes = do
  high ← choice_at (tested is_used_high) bytes
  low ← choice_at (tested (is_used_low high.0)) high.1
  Ok (high.0 * 256 + low.0, low.1)

abbrev pub is_zero : ℕ → Bool
is_zero byte = byte == 0

unfoldable pub page_at : List ℕ → Result (List Piece × List ℕ) ℕ
page_at bytes = do
  version ← choice_at (tested is_version) bytes
  used ← used_at version.1
  lap ← bytes_at 4 used.1
  pieces ← pieces_at used.0 used.0 lap.1
  zeros ← passing_at is_zero (4088 - used.0) pieces.1
  Ok (pieces.0, zeros.1)
