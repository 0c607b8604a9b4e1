-- the records of logs
use Rattle.std.specs.Prelude.{◌≡◌, ◌⊎◌, ℕ, zero, suc, ◌+◌, ◌/◌, List, [], ◌∷◌, ◌++◌, Option, None, Some}
use Rattle.qsg_disk.specs.Byte.{Byte, values}
use Rattle.qsg_logpage.specs.Page.{page_at, with_lap, page_read, log_pages}
use Rattle.qsg_logpage.specs.Log.{LogState, hand_body}
use Rattle.qsg_logrec.specs.declared.record.LogRecord.{LogRecord}
use Rattle.qsg_logread.specs.Records.{PagesJoin}

-- the records of a log of `size` pages from page `keep` on: those joined from its pages up to the first that isn't
-- safely open, or `size` of them
pub record IsLogOf (records : List LogRecord) (bytes : List Byte) (size keep : ℕ) : Type 0 where
  pub begun : Option (List ℕ)
  pub joins : PagesJoin None (log_pages bytes size keep) records begun

-- the bodies that reading gives, page by page from a first one on, up to the first that isn't read, or so many
abbrev pub pages_read : List Byte → ℕ → ℕ → ℕ → List (List ℕ)
pages_read bytes size first zero = []
pages_read bytes size first (suc count) =
    elim (page_read (first / size) (values (page_at bytes size first))) [ None ↦ [] | Some body ↦ body ∷ pages_read bytes size (first + 1) count ]

-- pages with the laps that they have from page `first` of a log on
abbrev pub lapped : ℕ → ℕ → List (List ℕ) → List (List ℕ)
lapped size first [] = []
lapped size first (body ∷ bodies) = with_lap (first / size) body ∷ lapped size (first + 1) bodies

-- A log after a power cut. These records are those of the pages before the run in hand, which leave this one begun;
-- `safe` are the pages of the run that were safe. Those that are whole now are these, or these and the one in hand,
-- and the log's records are those before the run and those that end in the whole pages.
pub record IsCutLog (keep : ℕ) (log : LogState) (new : List Byte) (records : List LogRecord) (begun : Option (List ℕ)) (safe : List (List ℕ)) : Type 0 where
  pub whole : List (List ℕ)
  pub whole_is : (whole ≡ safe) ⊎ (whole ≡ safe ++ hand_body (log.next / log.size) log.hand)
  pub joins : (more : List LogRecord) (after : Option (List ℕ)) → PagesJoin begun whole more after → PagesJoin None (log_pages new log.size keep) (records ++ more) after
