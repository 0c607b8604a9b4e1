-- what a feed does, and what a reader was fed
use Rattle.std.specs.Prelude.{◌≡◌, ℕ, List, [], Option, None, Result, Ok, Err}
use Rattle.qsg_num.specs.declared.ids.PageNo.{PageNo}
use Rattle.qsg_msg.specs.Prefix.{IsFaultPlace}
use Rattle.qsg_logrec.specs.declared.piece.Piece.{Piece}
use Rattle.qsg_logrec.specs.declared.record.LogRecord.{LogRecord}
use Rattle.qsg_logrec.specs.Pages.{IsPageOf, IsBody}
use Rattle.qsg_logrec.specs.Cutting.{joined_from}
use Rattle.qsg_num.specs.declared.words.LogWhy.{LogWhy}
use Rattle.qsg_num.specs.declared.words.LogWhy.TheVariants.{Device, BadPage, BadRecord}
use Rattle.qsg_logread.specs.declared.fault.FeedError.{FeedError}
use Rattle.qsg_logread.specs.declared.fault.FeedError.TheVariants.{Fault, NoMemory}
use Rattle.qsg_logread.specs.Records.{PagesJoin, IsFirstBad}
use Rattle.qsg_logread.specs.Fed.{Fed, with_records}

-- a reader was fed these pages, from nothing, and gave these records
pub record WasFed (pages : List (List ℕ)) (records : List LogRecord) (reader : Fed) : Type 0 where
  pub joins : PagesJoin None pages records reader.begun
  pub commits : reader.commits ≡ with_records [] records

-- the answer is these records, unless memory ran out
abbrev pub IsReadAs : List LogRecord → Result (List LogRecord) FeedError → Type 0
IsReadAs records (Ok x) = x ≡ records
IsReadAs records (Err NoMemory) = Unit {0}
IsReadAs records (Err (Fault why)) = ⊥

-- it isn't the body of a page, from this place on
abbrev pub IsBadPage : PageNo → List ℕ → LogWhy → Type 0
IsBadPage number body Device = ⊥
IsBadPage number body (BadPage page at) = (page ≡ number) × (IsBody body → ⊥) × IsFaultPlace IsBody body at
IsBadPage number body (BadRecord page at) = ⊥

-- of the records that end in the page, this is the first bad one's place
abbrev pub IsBadRecord : PageNo → List (List ℕ) → LogWhy → Type 0
IsBadRecord number texts Device = ⊥
IsBadRecord number texts (BadPage page at) = ⊥
IsBadRecord number texts (BadRecord page at) = (page ≡ number) × IsFirstBad texts at

-- a page whose first bad record has this place
pub record HasBadRecord (begun : Option (List ℕ)) (body : List ℕ) (at : ℕ) : Type 0 where
  pub pieces : List Piece
  pub page : IsPageOf pieces body
  pub first : IsFirstBad (joined_from (record { records = []; begun = begun }) pieces).records at

-- why a page is refused
abbrev pub IsFault : Option (List ℕ) → PageNo → List ℕ → LogWhy → Type 0
IsFault begun number body Device = ⊥
IsFault begun number body (BadPage page at) = (page ≡ number) × (IsBody body → ⊥) × IsFaultPlace IsBody body at
IsFault begun number body (BadRecord page at) = (page ≡ number) × HasBadRecord begun body at
