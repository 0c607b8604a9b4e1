-- what reading a page of a log tells, and what it leaves
use Rattle.std.specs.Prelude.{ℕ, ◌≡◌, ◌≤◌, ◌/◌, true, List, Option, IfSome}
use Rattle.qsg_disk.specs.Byte.{values}
use Rattle.qsg_logpage.specs.Page.{page_at, page_read, lap_of}
use Rattle.qsg_logs.specs.Kept.{KeptLog}

-- All is as it was but that the device may have failed; one that tells its bytes has the same ones.
pub record IsRead (old new : KeptLog) : Type 0 where
  pub rest : new ≡ record old { bytes = new.bytes; faults = new.faults }
  pub bytes : old.tells ≡ true → new.bytes ≡ old.bytes
  pub later : old.faults ≤ new.faults

-- What is found at a page's position has the page's lap. Over a device that tells its bytes it is the page that stands
-- there, if one does.
pub record IsFound (number : ℕ) (log : KeptLog) (found : Option (List ℕ)) : Type 0 where
  pub lap : IfSome found (λ body. lap_of body ≡ number / log.writer.size)
  pub page : log.tells ≡ true → found ≡ page_read (number / log.writer.size) (values (page_at log.bytes log.writer.size number))
