-- the logs of a new group
use Rattle.std.proofs.Common.{◌≡◌, ◌<◌, ◌*◌, ℕ, List, [], ◌∷◌, length, replicate, ap, sym, ◌∙◌, refl, subst}
use Rattle.std.specs.Prelude.{suc}
use Rattle.std.specs.List.{AllByRecursion}
use Rattle.qsg_disk.specs.Byte.{zero_byte}
use Rattle.qsg_objects.specs.declared.plans.MemberDef.{MemberDef}
use Rattle.qsg_logpage.specs.Log.{LogState}
use Rattle.qsg_logs.specs.Kept.{KeptLog}
use Rattle.qsg_logs.specs.Writers.{new_writer}
use Rattle.qsg_devices.specs.Logs.{IsLogSized, IsNewLog, AreNewLogs}
use Rattle.qsg_steady.specs.Founding as founding

new_log : (pages : ℕ) (log : KeptLog) → 0 < pages → IsNewLog pages log → founding.IsNewLog log
new_log pages log some new =
    let size : log.writer.size ≡ pages = ap (λ (w : LogState). w.size) new.writer in
    record {
      some = subst (λ n. 0 < n) (sym size) some;
      writer = new.writer ∙ ap new_writer (sym size);
      fillings = new.fillings;
      zeros = λ tells. new.zeros tells ∙ ap (λ n. replicate (4096 * n) zero_byte) (sym size);
    }

pub all_new : (members : List MemberDef) (logs : List KeptLog) → AllByRecursion IsLogSized members → AreNewLogs members logs → AllByRecursion founding.IsNewLog logs
all_new [] [] sized new = tt
all_new [] (log ∷ logs) sized new = absurd new
all_new (m ∷ members) [] sized new = absurd new
all_new (m ∷ members) (log ∷ logs) sized new = (new_log m.log_pages log sized.0.0 new.0, all_new members logs sized.1 new.1)

pub as_many : (members : List MemberDef) (logs : List KeptLog) → AreNewLogs members logs → length logs ≡ length members
as_many [] [] new = refl
as_many [] (log ∷ logs) new = absurd new
as_many (m ∷ members) [] new = absurd new
as_many (m ∷ members) (log ∷ logs) new = ap suc (as_many members logs new.1)
