-- what a walk has read of a log
use Rattle.std.specs.Prelude.{ℕ, ◌≡◌, ◌⊎◌, ◌+◌, ◌-◌, ◌/◌, ◌≤◌, min, List, [], ◌∷◌, ◌++◌, length, Option, Some, None}
use Rattle.qsg_disk.specs.Byte.{Byte, values}
use Rattle.qsg_logrec.specs.declared.record.LogRecord.{LogRecord}
use Rattle.qsg_logpage.specs.Page.{page_at, page_read}
use Rattle.qsg_logpage.specs.Log.{LogState, pages_written}
use Rattle.qsg_logread.specs.Fed.{Fed}
use Rattle.qsg_logread.specs.Feeding.{WasFed}
use Rattle.qsg_logread.specs.Logs.{pages_read}
use Rattle.qsg_walk.specs.declared.walk.KeptPage.{KeptPage}
use Rattle.qsg_walk.specs.Walks.{Walk}

-- the page that a walk keeps, if it keeps one
abbrev pub kept_body : Option KeptPage → List (List ℕ)
kept_body None = []
kept_body (Some kept) = kept.page ∷ []

-- what reading tells at a page of a log of so many pages whose device has these bytes
abbrev pub read_at : List Byte → ℕ → ℕ → Option (List ℕ)
read_at bytes size number = page_read (number / size) (values (page_at bytes size number))

-- The pages that a walk from page `first` on was fed, and the one that it keeps, are those that reading gives before the
-- page that it reads next. It may read as many more as are left of the log, or it has ended, where no page stands.
pub record Follows (first size : ℕ) (bytes : List Byte) (w : Walk) : Type 0 where
  pub pages : List (List ℕ)
  pub records : List LogRecord
  pub fed : WasFed pages records w.reader
  pub all : List (List ℕ)
  pub all_are : all ≡ pages ++ kept_body w.kept
  pub read : pages_read bytes size first (length all) ≡ all
  pub next : w.next ≡ first + length all
  pub few : length all ≤ size
  pub left : (w.left + length all ≡ min size (4290000000 - first)) ⊎ ((w.left ≡ 0) × (w.kept ≡ None) × (read_at bytes size (first + length all) ≡ None))

-- the reader was fed all pages that were written, from a first one on
pub record HasReadAll (first : ℕ) (log : LogState) (bytes : List Byte) (reader : Fed) : Type 0 where
  pub records : List LogRecord
  pub fed : WasFed (pages_written first log bytes) records reader
