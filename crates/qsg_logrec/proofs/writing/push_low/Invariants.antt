use Rattle.std.proofs.Common.{◌≡◌, ◌++◌, drop}
use Rattle.qsg_logrec.specs.Spelling.{low_text, ArePages}
use Rattle.qsg_logrec.proofs.writing.push_low.Given as goal

abbrev pub invariant-loop-page : goal.invariant-loop-page
invariant-loop-page l = (l.out.items ++ low_text (drop l.page-index l.low) ≡ l.initial.out.items ++ low_text l.low) × (ArePages (drop l.page-index l.low) → ArePages l.low)
