use Rattle.std.proofs.Common.{◌≡◌, ap, sym, subst, false}
use Rattle.qsg_logpage.specs.Log.{LogState, has_run}
use Rattle.qsg_logs.specs.Kept.{KeptLog}
use Rattle.qsg_logs.proofs.Within.{kept_answer}
use Rattle.qsg_logs.proofs.member_log.MemberLog.reserve.Goals as goal

pub invariant_of-self : goal.invariant_of-self
invariant_of-self g c =
    let was : c.self.inside.writer ≡ c.args.self.now.writer = ap (λ (l : KeptLog). l.writer) c.self.view_is in
    let idle = subst (λ (w : LogState). has_run c.args.unit w ≡ false) (sym was) c.requires.idle in
    kept_answer (g.D.Disk.extent c.self.inside.device) c.self.inside.next.number c.self.inside.writer c.reserve.new.self c.self.inside.fillings c.args.unit c.need-need.result c.args.keep.number c.reserve.result idle
    c.reserve.ensures.answer c.reserve.ensures.reserved c.reserve.ensures.refused c.self.invariant
