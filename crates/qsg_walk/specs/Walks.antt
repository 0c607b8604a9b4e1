-- what contracts see of a walk over a log, and what its steps make of it
use Rattle.std.specs.Prelude.{ℕ, ◌≡◌, ◌+◌, ◌-◌, min, List, [], Option, Some, None}
use Rattle.qsg_num.specs.declared.words.LogWhy.{LogWhy}
use Rattle.qsg_logrec.specs.declared.record.LogRecord.{LogRecord}
use Rattle.qsg_logread.specs.Fed.{Fed, with_records}
use Rattle.qsg_logread.specs.Records.{PageJoins}
use Rattle.qsg_logread.specs.Feeding.{IsFault}
use Rattle.qsg_walk.specs.declared.walk.KeptPage.{KeptPage}

pub record Walk : Type 0 where
  -- what its reader knows of the pages that it was fed
  pub reader : Fed
  -- the page that it read last, as long as it isn't fed
  pub kept : Option KeptPage
  -- the page that it reads next, and how many it may still read
  pub next : ℕ
  pub left : ℕ

-- a reader that was fed nothing
abbrev pub fed_nothing : Fed
fed_nothing = record { begun = None; commits = [] }

-- A walk from a page on over a log of so many pages. Pages from 4,290,000,000 on are never written.
abbrev pub new_walk : ℕ → ℕ → Walk
new_walk first pages = record { reader = fed_nothing; kept = None; next = first; left = min pages (4290000000 - first) }

-- a walk that was told what stands at its next page: a body, or that none does, which ends it
abbrev pub after_read : Option (List ℕ) → Walk → Walk
after_read None w = record w { left = 0 }
after_read (Some body) w = record w { kept = Some (record { no = record { number = w.next }; page = body }); next = w.next + 1; left = w.left - 1 }

-- the reader was fed a page, which gave these records
pub record FeedsPage (body : List ℕ) (old : Walk) (records : List LogRecord) (new : Walk) : Type 0 where
  pub joins : PageJoins old.reader.begun body records new.reader.begun
  pub commits : new.reader.commits ≡ with_records old.reader.commits records
  pub rest : new ≡ record old { reader = new.reader; kept = None }

abbrev pub FeedsKept : Option KeptPage → Walk → List LogRecord → Walk → Type 0
FeedsKept None old records new = (records ≡ []) × (new ≡ old)
FeedsKept (Some kept) old records new = FeedsPage kept.page old records new

-- a walk that has fed the page that it kept, if it kept one, which gave these records
abbrev pub Feeds : Walk → List LogRecord → Walk → Type 0
Feeds old records new = FeedsKept old.kept old records new

abbrev pub IsBadKept : Option KeptPage → Walk → LogWhy → Type 0
IsBadKept None w why = ⊥
IsBadKept (Some kept) w why = IsFault w.reader.begun kept.no kept.page why

-- the page that the walk kept is refused for this reason
abbrev pub IsBad : Walk → LogWhy → Type 0
IsBad w why = IsBadKept w.kept w why
