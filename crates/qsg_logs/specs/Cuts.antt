-- what a power cut leaves of a log, and where its writer goes on
use Rattle.std.specs.Prelude.{ℕ, ◌+◌, ◌≡◌, ◌≤◌, Bool, true, false, if◌then◌else◌, None}
use Rattle.qsg_logpage.specs.Log.{IsTied, IsCutShort}
use Rattle.qsg_unitlog.specs.Tells.{is_left_whole}
use Rattle.qsg_logs.specs.Writers.{idle_writer}
use Rattle.qsg_logs.specs.Kept.{KeptLog, no_fillings}

-- the page that is written next, where the page in hand was left whole or not
abbrev pub next_behind : Bool → ℕ → ℕ
next_behind left next = if left then next + 1 else next

-- A log after a power cut: its writer goes on behind the pages that stand, `left` being whether the page in hand is one of them.
pub record IsCut (left : Bool) (old new : KeptLog) : Type 0 where
  pub tells : new.tells ≡ old.tells
  pub extent : new.extent ≡ old.extent
  pub faults : old.faults ≤ new.faults
  pub fillings : new.fillings ≡ no_fillings
  pub writer : new.writer ≡ idle_writer old.writer.size (next_behind left old.writer.next)
  -- with no run in hand there is no such page
  pub idle : old.writer.hand ≡ None → left ≡ false
  pub cut : old.tells ≡ true → (keep : ℕ) → IsTied keep old.writer old.bytes → IsCutShort keep old.writer old.bytes new.bytes
  pub whole : old.tells ≡ true → (keep : ℕ) → IsTied keep old.writer old.bytes → left ≡ is_left_whole keep old.writer new.bytes

-- a log whose writer begins anew at a page
abbrev pub restarted : ℕ → KeptLog → KeptLog
restarted next log = record log { writer = idle_writer log.writer.size next; fillings = no_fillings }
