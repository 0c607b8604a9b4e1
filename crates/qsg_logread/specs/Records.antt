-- the records of pages
use Rattle.std.specs.Prelude.{◌≡◌, ℕ, ◌<◌, length, take, List, [], ◌∷◌, ◌++◌, map, Option}
use Rattle.qsg_msg.specs.Prefix.{IsFaultPlace}
use Rattle.qsg_logrec.specs.declared.piece.Piece.{Piece}
use Rattle.qsg_logrec.specs.declared.record.LogRecord.{LogRecord}
use Rattle.qsg_logrec.specs.Spelling.{record_text, IsRecord, IsSpelling}
use Rattle.qsg_logrec.specs.Pages.{IsPageOf}
use Rattle.qsg_logrec.specs.Cutting.{joined_from, ArePagesOf, all_pieces}

-- the spellings of records
abbrev pub texts_of : List LogRecord → List (List ℕ)
texts_of records = map record_text records

abbrev pub AreRecords : List LogRecord → Type 0
AreRecords [] = Unit {0}
AreRecords (r ∷ rs) = IsRecord r × AreRecords rs

-- behind a record that is begun or none, the pieces end these records and leave this one begun
pub record Joins (begun : Option (List ℕ)) (pieces : List Piece) (records : List LogRecord) (after : Option (List ℕ)) : Type 0 where
  pub each : AreRecords records
  pub joined : joined_from (record { records = []; begun = begun }) pieces ≡ record { records = texts_of records; begun = after }

-- the same of the pieces of a page
pub record PageJoins (begun : Option (List ℕ)) (body : List ℕ) (records : List LogRecord) (after : Option (List ℕ)) : Type 0 where
  pub pieces : List Piece
  pub page : IsPageOf pieces body
  pub joins : Joins begun pieces records after

-- the same of the pieces of pages
pub record PagesJoin (begun : Option (List ℕ)) (pages : List (List ℕ)) (records : List LogRecord) (after : Option (List ℕ)) : Type 0 where
  pub pieces : List (List Piece)
  pub pages_are : ArePagesOf pieces pages
  pub joins : Joins begun (all_pieces pieces) records after

-- the bytes are no record's, from this place on
pub record IsBadText (text : List ℕ) (at : ℕ) : Type 0 where
  pub is_bad : IsSpelling text → ⊥
  pub place : IsFaultPlace IsSpelling text at

-- the first of these texts that is no record's, and the place
pub record IsFirstBad (texts : List (List ℕ)) (at : ℕ) : Type 0 where
  pub front : List LogRecord
  pub bad : List ℕ
  pub back : List (List ℕ)
  pub texts_are : texts ≡ texts_of front ++ bad ∷ back
  pub each : AreRecords front
  pub is_bad : IsBadText bad at

-- a front of these records that isn't all of them
pub record IsProperFront (front records : List LogRecord) : Type 0 where
  pub count : ℕ
  pub fewer : count < length records
  pub front_is : front ≡ take count records
