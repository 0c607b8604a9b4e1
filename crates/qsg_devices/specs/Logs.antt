-- the logs of a new group
use Rattle.std.specs.Prelude.{ℕ, ◌≡◌, ◌*◌, ◌<◌, ◌≤◌, true, List, [], ◌∷◌, ◌++◌, replicate}
use Rattle.qsg_disk.specs.Byte.{zero_byte}
use Rattle.qsg_objects.specs.declared.plans.MemberDef.{MemberDef}
use Rattle.qsg_logs.specs.Kept.{KeptLog, no_fillings}
use Rattle.qsg_logs.specs.Writers.{new_writer}

-- a log has some pages, and at most 8,192
abbrev pub IsLogSized : MemberDef → Type 0
IsLogSized m = (0 < m.log_pages) × (m.log_pages ≤ 8192)

-- a log of so many pages on a new device, with nothing written
pub record IsNewLog (pages : ℕ) (log : KeptLog) : Type 0 where
  pub writer : log.writer ≡ new_writer pages
  pub fillings : log.fillings ≡ no_fillings
  pub extent : log.extent ≡ 4096 * pages
  pub zeros : log.tells ≡ true → log.bytes ≡ replicate (4096 * pages) zero_byte

-- each member has one
abbrev pub AreNewLogs : List MemberDef → List KeptLog → Type 0
AreNewLogs [] [] = Unit {0}
AreNewLogs (m ∷ members) (log ∷ logs) = IsNewLog m.log_pages log × AreNewLogs members logs
AreNewLogs [] (log ∷ logs) = ⊥
AreNewLogs (m ∷ members) [] = ⊥

-- one log more, a new one
pub record IsOneMoreLog (pages : ℕ) (old new : List KeptLog) : Type 0 where
  pub log : KeptLog
  pub is_new : IsNewLog pages log
  pub added : new ≡ old ++ log ∷ []
