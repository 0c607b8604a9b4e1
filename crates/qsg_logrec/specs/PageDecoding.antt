-- what decoding a page answers
use Rattle.std.specs.Prelude.{◌≡◌, List, Result, Ok, Err}
use Rattle.qsg_logrec.specs.declared.piece.Piece.{Piece}
use Rattle.qsg_logrec.specs.declared.fault.PageFault.{PageFault}
use Rattle.qsg_logrec.specs.declared.fault.PageFault.TheVariants.{BadPage, NoMemory}

-- the answer is these pieces, unless memory ran out
abbrev pub HasPieces : List Piece → Result (List Piece) PageFault → Type 0
HasPieces pieces (Ok x) = x ≡ pieces
HasPieces pieces (Err NoMemory) = Unit {0}
HasPieces pieces (Err (BadPage at)) = ⊥
