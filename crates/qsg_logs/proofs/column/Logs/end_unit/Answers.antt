use Rattle.std.proofs.Common.{ℕ, List}
use Rattle.qsg_disk.specs.Byte.{Byte}
use Rattle.qsg_logpage.specs.Log.{IsTied}
use Rattle.qsg_logs.specs.Kept.{KeptLog}
use Rattle.qsg_logs.proofs.Columns.{seen_as}
use Rattle.qsg_logs.proofs.column.Logs.end_unit.Goals as goal

pub returns-clause-tied : goal.returns-clause-tied
returns-clause-tied g c = seen_as (λ (old new : KeptLog). (keep : ℕ) (bytes : List Byte) → IsTied keep old.writer bytes → IsTied keep new.writer bytes) c.args.member c.index.result c.self.inside.items.items c.args.self.now c.index_mut-log.result.now c.end_unit.new.self c.self.view_is c.index.ensures.value c.requires.within c.index_mut-log.ensures.value c.end_unit.ensures.tied
