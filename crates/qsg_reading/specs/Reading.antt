-- what a walk over a log has read, while others go on with that log
use Rattle.std.specs.Prelude.{◌≡◌, ◌⊎◌, ◌<◌, ◌≤◌, ◌+◌, ◌-◌, ◌/◌, ℕ, min, List, [], ◌∷◌, ◌++◌, length, None}
use Rattle.qsg_num.specs.declared.seats.Member.{Member}
use Rattle.qsg_num.specs.declared.ids.Incarnation.{Incarnation}
use Rattle.qsg_logrec.specs.declared.record.LogRecord.{LogRecord}
use Rattle.qsg_logpage.specs.Log.{LogState, hand_body, pages_written}
use Rattle.qsg_logread.specs.Fed.{Fed}
use Rattle.qsg_logread.specs.Feeding.{WasFed}
use Rattle.qsg_group.specs.Group.{Log}
use Rattle.qsg_logs.specs.Kept.{KeptLog}
use Rattle.qsg_walk.specs.Walks.{Walk}
use Rattle.qsg_walk.specs.Following.{kept_body}
use Rattle.qsg_reading.specs.Knowing.{Knows}

-- the page in hand of a writer, with its lap, if it has one
abbrev pub page_in_hand : LogState → List (List ℕ)
page_in_hand log = hand_body (log.next / log.size) log.hand

-- the pages that are written to a log, from a page on
abbrev pub written_from : ℕ → KeptLog → List (List ℕ)
written_from low kept = pages_written low kept.writer kept.bytes

-- these pages are the first ones of those that are written
abbrev pub AreWritten : ℕ → KeptLog → List (List ℕ) → Type 0
AreWritten low kept all = (more : List (List ℕ)) × (written_from low kept ≡ all ++ more)

-- These pages are all that are written and one more, which was in hand when it was read. It is in hand still, or a power
-- cut has closed it, and no other page is in hand.
pub record AreAhead (low : ℕ) (kept : KeptLog) (all : List (List ℕ)) : Type 0 where
  pub page : List ℕ
  pub are : all ≡ written_from low kept ++ page ∷ []
  pub in_hand : (page_in_hand kept.writer ≡ page ∷ []) ⊎ (page_in_hand kept.writer ≡ [])

-- A walk that goes on has read these pages, from the low page on, and reads the next one then. A reader that is fed them
-- all knows of the incarnation's units already where one of them is ahead.
pub record IsUnderWay (life : Member × Incarnation) (log : Log) (kept : KeptLog) (w : Walk) (all : List (List ℕ)) (reader : Fed) : Type 0 where
  pub next : w.next ≡ log.low + length all
  pub left : w.left + length all ≡ min kept.writer.size (4290000000 - log.low)
  pub pages : AreWritten log.low kept all ⊎ (AreAhead log.low kept all × Knows life reader log)

-- What a walk has read of a member's log from its low page on, in order to know of the units of an incarnation.
pub record IsReading (life : Member × Incarnation) (log : Log) (kept : KeptLog) (w : Walk) : Type 0 where
  -- the pages that its reader was fed
  pub fed : List (List ℕ)
  pub given : List LogRecord
  pub was_fed : WasFed fed given w.reader
  -- the reader once it is fed the page that the walk keeps, too
  pub reader : Fed
  pub records : List LogRecord
  pub will_be : WasFed (fed ++ kept_body w.kept) records reader
  pub goes_on : 0 < w.left → IsUnderWay life log kept w (fed ++ kept_body w.kept) reader
  pub ended : w.left ≡ 0 → Knows life reader log

-- Where no run is in hand, a walk that goes on has read pages that are written. It may have read one more only while a
-- power cut has closed that page and nobody has gone on with the log.
abbrev pub HasReadWritten : Walk → KeptLog → Type 0
HasReadWritten w kept = 0 < w.left → kept.writer.hand ≡ None → w.next ≤ kept.writer.next

-- Between two steps of its work a walk that goes on keeps the page that it read last, or has read none.
abbrev pub KeepsLast : ℕ → Walk → Type 0
KeepsLast low w = 0 < w.left → w.kept ≡ None → w.next ≡ low

-- ---- what others make of the log

-- the pages that are written stay, and the page in hand, unless it goes
pub record Stays (low : ℕ) (old new : KeptLog) : Type 0 where
  pub pages : written_from low new ≡ written_from low old
  pub in_hand : (page_in_hand new.writer ≡ page_in_hand old.writer) ⊎ (page_in_hand new.writer ≡ [])

-- they stay, and the page in hand is written too
pub record Grows (low : ℕ) (old new : KeptLog) : Type 0 where
  pub page : List ℕ
  pub in_hand : page_in_hand old.writer ≡ page ∷ []
  pub pages : written_from low new ≡ written_from low old ++ page ∷ []

-- a log that its writer, or a power cut, has gone on with
pub record IsLater (low : ℕ) (old new : KeptLog) : Type 0 where
  pub size : new.writer.size ≡ old.writer.size
  pub pages : Stays low old new ⊎ Grows low old new
