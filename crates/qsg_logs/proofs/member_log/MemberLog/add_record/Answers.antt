use Rattle.std.proofs.Common.{◌≡◌, ◌∙◌, ap, arith}
use Rattle.qsg_logpage.specs.Log.{LogState}
use Rattle.qsg_logs.specs.Kept.{KeptLog, filling_of, with_operation, with_commit}
use Rattle.qsg_logs.proofs.Within.{kept_filling, commit_behind}
use Rattle.qsg_logs.proofs.member_log.MemberLog.add_record.Goals as goal

pub invariant_of-self : goal.invariant_of-self
invariant_of-self g c =
    let was : c.self.inside.writer ≡ c.args.self.now.writer = ap (λ (l : KeptLog). l.writer) c.self.view_is in
    let made : c.with_operation-filling.result ≡ with_operation c.args.logged (filling_of c.args.task c.args.self.now) = c.with_operation-filling.ensures.value ∙ ap (with_operation c.args.logged) c.filling.ensures.value in (
      c.self.invariant.0,
      kept_filling _ c.self.inside.writer c.self.inside.fillings c.from.result c.with_operation-filling.result
          (omega (arith, commit_behind c.with_operation-filling.result, ap with_commit made, c.requires.fits, ap (λ (w : LogState). w.size) was)) c.self.invariant.1,
    )
