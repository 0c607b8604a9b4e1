use Rattle.std.proofs.Common.{◌≡◌, ◌<◌, ◌≤◌, true, ℕ}
use Rattle.qsg_logpage.specs.Page.{page_at}
use Rattle.qsg_logpage.specs.Log.{IsTied}
use Rattle.qsg_logs.specs.Kept.{KeptLog}
use Rattle.qsg_logs.proofs.Columns.{seen_as}
use Rattle.qsg_logs.proofs.column.Logs.next_step.Goals as goal

pub returns-clause-tied : goal.returns-clause-tied
returns-clause-tied g c = seen_as (λ (old new : KeptLog). old.tells ≡ true → (keep : ℕ) → IsTied keep old.writer old.bytes → IsTied keep new.writer new.bytes) c.args.member c.index.result c.self.inside.items.items c.args.self.now c.index_mut-written.result.now c.next_step.new.self c.self.view_is c.index.ensures.value c.requires.within c.index_mut-written.ensures.value c.next_step.ensures.tied

pub returns-clause-earlier : goal.returns-clause-earlier
returns-clause-earlier g c = seen_as (λ (old new : KeptLog). old.tells ≡ true → (keep : ℕ) → IsTied keep old.writer old.bytes → (k : ℕ) → keep ≤ k → k < old.writer.next → page_at new.bytes old.writer.size k ≡ page_at old.bytes old.writer.size k) c.args.member c.index.result c.self.inside.items.items c.args.self.now c.index_mut-written.result.now c.next_step.new.self c.self.view_is c.index.ensures.value c.requires.within c.index_mut-written.ensures.value c.next_step.ensures.earlier
