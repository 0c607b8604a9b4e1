-- how far records fill the pages of their run, by their lengths alone
use Rattle.std.specs.Prelude.{ℕ, zero, suc, ◌+◌, ◌-◌, nat_lt, if◌then◌else◌, List, [], ◌∷◌}
use Rattle.qsg_logneed.specs.declared.counting.Filling.{Filling}

-- no record, and no page yet
abbrev pub no_pages : Filling
no_pages = record { pages = 0; left = 0 }

-- up to the page of the next piece: where fewer than 4 bytes are left, a new page begins, of 4,088
abbrev pub page_for : Filling → Filling
page_for f = if nat_lt f.left 4 then record { pages = f.pages + 1; left = 4088 } else f

-- with a piece on that page: it takes 3 bytes, and as many of a record's bytes as remain or as fit
abbrev pub with_piece : Filling → ℕ → Filling
with_piece page bytes = record { pages = page.pages; left = page.left - 3 - bytes }

-- the bytes of a record that remain behind that piece
abbrev pub behind_piece : Filling → ℕ → ℕ
behind_piece page bytes = bytes - (page.left - 3)

-- with the pieces of so many bytes, while bytes remain, in so many pieces at most
abbrev pub with_pieces : ℕ → Filling → ℕ → Filling
with_pieces zero f bytes = f
with_pieces (suc most) f zero = f
with_pieces (suc most) f (suc bytes) = with_pieces most (with_piece (page_for f) (suc bytes)) (behind_piece (page_for f) (suc bytes))

-- with one record more, of so many bytes; it has no more pieces than bytes, since each has a byte
unfoldable pub with_record : Filling → ℕ → Filling
with_record f bytes = with_pieces bytes f bytes

-- with records of these lengths, in this order
abbrev pub filled_from : Filling → List ℕ → Filling
filled_from f [] = f
filled_from f (bytes ∷ lengths) = filled_from (with_record f bytes) lengths

-- a run of records of these lengths, from its first page on
abbrev pub filled : List ℕ → Filling
filled lengths = filled_from no_pages lengths
