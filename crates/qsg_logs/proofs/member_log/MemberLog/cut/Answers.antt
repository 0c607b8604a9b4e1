use Rattle.std.proofs.Common.{◌≤◌, ℕ, sym, ap, subst, ◌∙◌}
use Rattle.qsg_logs.specs.Kept.{KeptLog}
use Rattle.qsg_logs.specs.Cuts.{next_behind}
use Rattle.qsg_logs.proofs.Cuts.{behind_fits, cut_of}
use Rattle.qsg_logs.proofs.member_log.MemberLog.cut.Goals as goal

pub restart-requires : goal.restart-requires
restart-requires g c =
    subst (λ (n : ℕ). n ≤ 4290000000) (sym (c.page_behind.ensures ∙ ap (next_behind c.power_cut-left.result) (c.restart.invariant.0 ∙ ap (λ (l : KeptLog). l.writer.next) c.restart.view_is)))
    (behind_fits c.power_cut-left.result c.self.inside.writer c.power_cut-left.ensures.idle c.self.invariant.1.within)

pub returns : goal.returns
returns g c = cut_of c.power_cut-left.result _ _ c.args.self.now c.restart-2.new.self _ _ _ c.page_behind.result.number c.self.view_is c.restart-2.ensures
    c.power_cut-left.ensures.told c.power_cut-left.ensures.extent c.power_cut-left.ensures.faults
    (c.page_behind.ensures ∙ ap (next_behind c.power_cut-left.result) (c.restart.invariant.0 ∙ ap (λ (l : KeptLog). l.writer.next) c.restart.view_is))
    c.power_cut-left.ensures.idle c.power_cut-left.ensures.cut c.power_cut-left.ensures.whole
