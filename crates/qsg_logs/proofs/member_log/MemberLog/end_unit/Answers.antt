use Rattle.std.proofs.Common.{◌≡◌, ap, sym, subst, false, arith}
use Rattle.qsg_logpage.specs.Log.{LogState, IsTied, has_run}
use Rattle.qsg_logneed.specs.declared.counting.Filling.{Filling}
use Rattle.qsg_logs.specs.Kept.{KeptLog}
use Rattle.qsg_logs.proofs.Within.{kept_released, kept_filling}
use Rattle.qsg_logs.proofs.member_log.MemberLog.end_unit.Goals as goal

pub invariant_of-self : goal.invariant_of-self
invariant_of-self g c =
    let was : c.self.inside.writer ≡ c.args.self.now.writer = ap (λ (l : KeptLog). l.writer) c.self.view_is in
    let idle = subst (λ (w : LogState). has_run c.args.unit w ≡ false) (sym was) c.requires.idle in
    let kept = kept_released (g.D.Disk.extent c.self.inside.device) c.self.inside.next.number c.self.inside.writer c.release.new.self c.self.inside.fillings c.args.unit idle c.release.ensures.released c.self.invariant in
    (kept.0, kept_filling _ c.release.new.self c.self.inside.fillings c.from.result c.new.result (omega (arith, ap (λ (f : Filling). f.pages) c.new.ensures)) kept.1)

pub returns-clause-tied : goal.returns-clause-tied
returns-clause-tied g c = λ keep bytes tied.
    let was : c.self.inside.writer ≡ c.args.self.now.writer = ap (λ (l : KeptLog). l.writer) c.self.view_is in
    c.release.ensures.tied keep bytes (subst (λ (w : LogState). IsTied keep w bytes) (sym was) tied)
