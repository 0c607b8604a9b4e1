-- the records of a log after a power cut, and of a run
use Rattle.std.proofs.Common.{◌≡◌, ◌⊎◌, inl, inr, ℕ, ◌/◌, List, ◌++◌, Option, None, refl, sym, ap, subst, ◌∙◌, append_assoc}
use Rattle.qsg_disk.specs.Byte.{Byte}
use Rattle.qsg_logpage.specs.Page.{log_pages}
use Rattle.qsg_logpage.specs.Log.{LogState, hand_body, pages_written, IsCutShort}
use Rattle.qsg_logrec.specs.declared.record.LogRecord.{LogRecord}
use Rattle.qsg_logread.specs.Records.{PagesJoin}
use Rattle.qsg_logread.specs.Logs.{IsCutLog}
use Rattle.qsg_logread.proofs.Pages.{pages_append}

pub cut_log : (keep : ℕ) (log : LogState) (old new : List Byte) (before safe : List (List ℕ)) (rs : List LogRecord) (begun : Option (List ℕ))
    → IsCutShort keep log old new → pages_written keep log old ≡ before ++ safe → PagesJoin None before rs begun → IsCutLog keep log new rs begun safe
cut_log keep log old new before safe rs begun cut written joins = by cut.pages
  where
    on : (whole : List (List ℕ)) → log_pages new log.size keep ≡ before ++ whole → (more : List LogRecord) (after : Option (List ℕ)) → PagesJoin begun whole more after → PagesJoin None (log_pages new log.size keep) (rs ++ more) after
    on whole is more after here = subst (λ (l : List (List ℕ)). PagesJoin None l (rs ++ more) after) (sym is) (pages_append None begun after before whole rs more joins here)

    by : (log_pages new log.size keep ≡ pages_written keep log old) ⊎ (log_pages new log.size keep ≡ pages_written keep log old ++ hand_body (log.next / log.size) log.hand) → IsCutLog keep log new rs begun safe
    by (inl same) = record { whole = safe; whole_is = inl refl; joins = on safe (same ∙ written) }
    by (inr more) = record {
      whole = safe ++ hand_body (log.next / log.size) log.hand;
      whole_is = inr refl;
      joins = on (safe ++ hand_body (log.next / log.size) log.hand) (more ∙ ap (λ (l : List (List ℕ)). l ++ hand_body (log.next / log.size) log.hand) written ∙ append_assoc before safe (hand_body (log.next / log.size) log.hand));
    }
