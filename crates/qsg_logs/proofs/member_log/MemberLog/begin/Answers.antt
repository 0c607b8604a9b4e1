use Rattle.std.proofs.Common.{◌≡◌, ap, sym, subst}
use Rattle.qsg_logpage.specs.Log.{LogState, IsTied}
use Rattle.qsg_logs.specs.Kept.{KeptLog}
use Rattle.qsg_logs.proofs.Within.{}
use Rattle.qsg_logs.proofs.member_log.MemberLog.begin.Goals as goal

pub returns-clause-tied : goal.returns-clause-tied
returns-clause-tied g c = λ keep bytes tied.
    let was : c.self.inside.writer ≡ c.args.self.now.writer = ap (λ (l : KeptLog). l.writer) c.self.view_is in
    c.begin.ensures.tied keep bytes (subst (λ (w : LogState). IsTied keep w bytes) (sym was) tied)
