-- the pages of a device are those of its log
use Rattle.std.proofs.Common.{◌≡◌, ◌/◌, ◌*◌, ℕ, true, List, Option, Result, Ok, Err, IfOk, arith, subst, sym}
use Rattle.std.specs.Prelude.{IfSome}
use Rattle.qsg_disk.specs.Byte.{values}
use Rattle.qsg_num.specs.declared.words.Failed.{Failed}
use Rattle.qsg_logpage.specs.Page.{page_at, page_read, lap_of}
use Rattle.qsg_logs.specs.Kept.{KeptLog}
use Rattle.qsg_logs.specs.Reading.{IsFound}

pages_of : (size : ℕ) → (4096 * size) / 4096 ≡ size
pages_of size = omega arith

found_of : (log : KeptLog) (number pages : ℕ) (result : Result (Option (List ℕ)) Failed) → pages ≡ log.writer.size
    → IfOk result (λ found. IfSome found (λ body. lap_of body ≡ number / pages))
    → IfOk result (λ found. log.tells ≡ true → found ≡ page_read (number / pages) (values (page_at log.bytes pages number)))
    → IfOk result (λ found. IsFound number log found)
found_of log number pages (Ok found) same lap page = record {
  lap = subst (λ (n : ℕ). IfSome found (λ body. lap_of body ≡ number / n)) same lap;
  page = subst (λ (n : ℕ). log.tells ≡ true → found ≡ page_read (number / n) (values (page_at log.bytes n number))) same page;
}
found_of log number pages (Err why) same lap page = tt

pub found_in : (v log : KeptLog) (number : ℕ) (result : Result (Option (List ℕ)) Failed) → v ≡ log → v.extent ≡ 4096 * v.writer.size
    → IfOk result (λ found. IfSome found (λ body. lap_of body ≡ number / (v.extent / 4096)))
    → IfOk result (λ found. v.tells ≡ true → found ≡ page_read (number / (v.extent / 4096)) (values (page_at v.bytes (v.extent / 4096) number)))
    → IfOk result (λ found. IsFound number log found)
found_in v log number result same extent lap page =
    subst (λ (l : KeptLog). IfOk result (λ found. IsFound number l found)) same
    (found_of v number (v.extent / 4096) result (subst (λ (n : ℕ). n / 4096 ≡ v.writer.size) (sym extent) (pages_of v.writer.size)) lap page)
