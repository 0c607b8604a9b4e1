-- the bytes of pieces and of the bodies of pages
use Rattle.std.specs.Prelude.{◌≡◌, ℕ, ◌<◌, ◌≤◌, ◌-◌, ◌^◌, ◌==◌, ◌||◌, Bool, true, List, [], ◌∷◌, ◌++◌, length, replicate}
use Rattle.std.specs.Int.{w16, to_be_bytes}
use Rattle.qsg_logrec.specs.declared.piece.Part.{Part}
use Rattle.qsg_logrec.specs.declared.piece.Part.TheVariants.{Only, First, Middle, Last}
use Rattle.qsg_logrec.specs.declared.piece.Piece.{Piece}

abbrev pub part_number : Part → ℕ
part_number Only = 1
part_number First = 2
part_number Middle = 3
part_number Last = 4

-- the part, two bytes of length, and the bytes
abbrev pub piece_text : Piece → List ℕ
piece_text p = part_number p.part ∷ (to_be_bytes w16 (length p.bytes) ++ p.bytes)

-- a piece has a byte, and its length fits two
pub record IsPiece (p : Piece) : Type 0 where
  pub some : 0 < length p.bytes
  pub fits : length p.bytes < 2 ^ 16

abbrev pub area_text : List Piece → List ℕ
area_text [] = []
area_text (p ∷ ps) = piece_text p ++ area_text ps

abbrev pub ArePieces : List Piece → Type 0
ArePieces [] = Unit {0}
ArePieces (p ∷ ps) = IsPiece p × ArePieces ps

-- the version, two bytes for how many bytes of the area are in use, four bytes of lap, the area, zeros
abbrev pub page_text : ℕ → List ℕ → List ℕ → List ℕ
page_text version lap area = version ∷ (to_be_bytes w16 (length area) ++ (lap ++ (area ++ replicate (4088 - length area) 0)))

abbrev pub is_version : ℕ → Bool
is_version v = (v == 1) || (v == 2)

-- a body is that of a page with these pieces
pub record IsPageOf (pieces : List Piece) (body : List ℕ) : Type 0 where
  pub version : ℕ
  pub version_is : is_version version ≡ true
  pub lap : List ℕ
  pub lap_length : length lap ≡ 4
  pub each : ArePieces pieces
  pub some : 4 ≤ length (area_text pieces)
  pub fits : length (area_text pieces) ≤ 4088
  pub body_is : body ≡ page_text version lap (area_text pieces)

-- the bytes are the body of a page
abbrev pub IsBody : List ℕ → Type 0
IsBody body = (pieces : List Piece) × IsPageOf pieces body
