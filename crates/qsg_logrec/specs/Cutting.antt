-- how records are cut into pieces and pages, and joined again
use Rattle.std.specs.Prelude.{◌≡◌, ℕ, zero, suc, ◌-◌, ◌<◌, ◌≤◌, min, nat_lt, nat_le, if◌then◌else◌, length, take, drop, List, [], ◌∷◌, ◌++◌, Option, Some, None, Bool, true, false}
use Rattle.qsg_logrec.specs.declared.piece.Part.{Part}
use Rattle.qsg_logrec.specs.declared.piece.Part.TheVariants.{Only, First, Middle, Last}
use Rattle.qsg_logrec.specs.declared.piece.Piece.{Piece}
use Rattle.qsg_logrec.specs.Pages.{piece_text, page_text, IsPageOf}

-- the records that are whole, and the one that was begun
pub record Joined : Type 0 where
  pub records : List (List ℕ)
  pub begun : Option (List ℕ)

abbrev pub go_on : List (List ℕ) → Option (List ℕ) → List ℕ → Joined
go_on records None bytes = record { records = records; begun = None }
go_on records (Some begun) bytes = record { records = records; begun = Some (begun ++ bytes) }

abbrev pub end_with : List (List ℕ) → Option (List ℕ) → List ℕ → Joined
end_with records None bytes = record { records = records; begun = None }
end_with records (Some begun) bytes = record { records = records ++ (begun ++ bytes) ∷ []; begun = None }

-- an only piece is a record and drops an unfinished one; a first one begins one and drops an unfinished one; middle
-- and last ones go on, and are dropped where none is begun
abbrev pub join_part : Joined → Part → List ℕ → Joined
join_part j Only bytes = record { records = j.records ++ bytes ∷ []; begun = None }
join_part j First bytes = record { records = j.records; begun = Some bytes }
join_part j Middle bytes = go_on j.records j.begun bytes
join_part j Last bytes = end_with j.records j.begun bytes

abbrev pub join_piece : Joined → Piece → Joined
join_piece j piece = join_part j piece.part piece.bytes

abbrev pub joined_from : Joined → List Piece → Joined
joined_from j [] = j
joined_from j (p ∷ ps) = joined_from (join_piece j p) ps

-- what pieces are joined to
abbrev pub joined : List Piece → Joined
joined pieces = joined_from (record { records = []; begun = None }) pieces

-- the part of a piece that begins its record or doesn't, and ends it or doesn't
abbrev pub part_at : Bool → Bool → Part
part_at true true = Only
part_at true false = First
part_at false true = Last
part_at false false = Middle

-- how many bytes of a record fit where so many bytes of the page are left, on a new page if need be
abbrev pub room_at : ℕ → ℕ
room_at left = (if nat_lt left 4 then 4088 else left) - 3

-- the pieces of a record, in so many at most: each takes as many bytes as remain or as fit
abbrev pub cut_pieces : ℕ → ℕ → Bool → List ℕ → List Piece
cut_pieces zero left first bytes = []
cut_pieces (suc most) left first [] = []
cut_pieces (suc most) left first (byte ∷ bytes) =
    record { part = part_at first (nat_le (length (byte ∷ bytes)) (room_at left)); bytes = take (room_at left) (byte ∷ bytes) }
    ∷ cut_pieces most (room_at left - min (length (byte ∷ bytes)) (room_at left)) false (drop (room_at left) (byte ∷ bytes))

-- how many bytes of the page are left behind these pieces
abbrev pub left_after : ℕ → List Piece → ℕ
left_after left [] = left
left_after left (p ∷ ps) = left_after (room_at left - length p.bytes) ps

-- the pieces of a run of records
abbrev pub run_pieces : ℕ → List (List ℕ) → List Piece
run_pieces left [] = []
run_pieces left (r ∷ rs) = cut_pieces (length r) left true r ++ run_pieces (left_after left (cut_pieces (length r) left true r)) rs

-- version 2, lap 0
abbrev pub cut_page : List ℕ → List ℕ
cut_page area = page_text 2 (0 ∷ 0 ∷ 0 ∷ 0 ∷ []) area

abbrev pub last_page : List ℕ → List (List ℕ)
last_page [] = []
last_page (byte ∷ area) = cut_page (byte ∷ area) ∷ []

-- the pages of pieces, behind the area of the first so far: a new page begins where fewer than 4 bytes are left
abbrev pub bodies : List ℕ → List Piece → List (List ℕ)
bodies area [] = last_page area
bodies area (p ∷ ps) = if nat_lt 4084 (length area) then cut_page area ∷ bodies (piece_text p) ps else bodies (area ++ piece_text p) ps

-- the pages of a run of records
unfoldable pub cut_bodies : List (List ℕ) → List (List ℕ)
cut_bodies records = bodies [] (run_pieces 4088 records)

-- each piece has a byte, and fits where it comes
abbrev pub Fit : ℕ → List Piece → Type 0
Fit left [] = Unit {0}
Fit left (p ∷ ps) = (0 < length p.bytes) × (length p.bytes ≤ room_at left) × Fit (room_at left - length p.bytes) ps

-- each record has a byte
abbrev pub NoneEmpty : List (List ℕ) → Type 0
NoneEmpty [] = Unit {0}
NoneEmpty (r ∷ rs) = (0 < length r) × NoneEmpty rs

-- the bodies are those of pages with these pieces
abbrev pub ArePagesOf : List (List Piece) → List (List ℕ) → Type 0
ArePagesOf [] [] = Unit {0}
ArePagesOf [] (b ∷ bs) = ⊥
ArePagesOf (ps ∷ pss) [] = ⊥
ArePagesOf (ps ∷ pss) (b ∷ bs) = IsPageOf ps b × ArePagesOf pss bs

abbrev pub all_pieces : List (List Piece) → List Piece
all_pieces [] = []
all_pieces (ps ∷ pss) = ps ++ all_pieces pss

-- the pages have these records and no others
pub record HaveRecords (records pages : List (List ℕ)) : Type 0 where
  pub pieces : List (List Piece)
  pub pages_are : ArePagesOf pieces pages
  pub joins : joined (all_pieces pieces) ≡ record { records = records; begun = None }

-- the pages have a front of these records, and not all of them
pub record HaveFront (records pages : List (List ℕ)) : Type 0 where
  pub pieces : List (List Piece)
  pub pages_are : ArePagesOf pieces pages
  pub count : ℕ
  pub fewer : count < length records
  pub joins : (joined (all_pieces pieces)).records ≡ take count records
