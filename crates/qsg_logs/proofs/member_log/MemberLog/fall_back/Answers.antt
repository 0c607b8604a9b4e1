use Rattle.std.proofs.Common.{◌≡◌, ◌≤◌, ap, sym, subst, false, None, ℕ}
use Rattle.qsg_logpage.specs.Log.{LogState, IsTied, has_run}
use Rattle.qsg_logpage.specs.Reserved.{pages_for}
use Rattle.qsg_logs.specs.Kept.{KeptLog, need_of}
use Rattle.qsg_logs.proofs.Within.{kept_answer, kept_released, no_refusal, tied_reserved_less}
use Rattle.qsg_logs.proofs.member_log.MemberLog.fall_back.Goals as goal

pub prove-unreachable-requires : goal.prove-unreachable-requires
prove-unreachable-requires g c =
    let was : c.self.inside.writer ≡ c.args.self.now.writer = ap (λ (l : KeptLog). l.writer) c.self.view_is in
    let less : c.need-need.result ≤ pages_for c.args.unit c.self.inside.writer.reserved =
    subst (λ (n : ℕ). n ≤ pages_for c.args.unit c.self.inside.writer.reserved) (sym c.need-need.ensures)
    (subst (λ (w : LogState). need_of c.args.task None c.args.self.now ≤ pages_for c.args.unit w.reserved) (sym was) (c.requires.less c.if-has_operations.true)) in
    let is_done = no_refusal c.self.inside.writer c.args.unit c.need-need.result c.self.inside.next.number c.reserve.result c.self.invariant.1.within c.self.invariant.0 less c.reserve.ensures.answer in
    absurd (cc (is_done, c.if-prove.true, c.is_ok-reserved.ensures.value))

pub invariant_of-self : goal.invariant_of-self
invariant_of-self g c =
    let was : c.self.inside.writer ≡ c.args.self.now.writer = ap (λ (l : KeptLog). l.writer) c.self.view_is in
    let idle = subst (λ (w : LogState). has_run c.args.unit w ≡ false) (sym was) c.requires.idle in
    kept_answer (g.D.Disk.extent c.self.inside.device) c.self.inside.next.number c.self.inside.writer c.reserve.new.self c.self.inside.fillings c.args.unit c.need-need.result c.self.inside.next.number c.reserve.result idle
    c.reserve.ensures.answer c.reserve.ensures.reserved c.reserve.ensures.refused c.self.invariant

pub invariant_of-self-else-has_operations : goal.invariant_of-self-else-has_operations
invariant_of-self-else-has_operations g c =
    let was : c.self.inside.writer ≡ c.args.self.now.writer = ap (λ (l : KeptLog). l.writer) c.self.view_is in
    let idle = subst (λ (w : LogState). has_run c.args.unit w ≡ false) (sym was) c.requires.idle in
    kept_released (g.D.Disk.extent c.self.inside.device) c.self.inside.next.number c.self.inside.writer c.release.new.self c.self.inside.fillings c.args.unit idle c.release.ensures.released c.self.invariant

pub returns-then-has_operations-clause-tied : goal.returns-then-has_operations-clause-tied
returns-then-has_operations-clause-tied g c = λ keep bytes tied.
    let was : c.self.inside.writer ≡ c.args.self.now.writer = ap (λ (l : KeptLog). l.writer) c.self.view_is in
    let less : c.need-need.result ≤ pages_for c.args.unit c.self.inside.writer.reserved =
    subst (λ (n : ℕ). n ≤ pages_for c.args.unit c.self.inside.writer.reserved) (sym c.need-need.ensures)
    (subst (λ (w : LogState). need_of c.args.task None c.args.self.now ≤ pages_for c.args.unit w.reserved) (sym was) (c.requires.less c.if-has_operations.true)) in
    let is_done = no_refusal c.self.inside.writer c.args.unit c.need-need.result c.self.inside.next.number c.reserve.result c.self.invariant.1.within c.self.invariant.0 less c.reserve.ensures.answer in
    tied_reserved_less c.self.inside.writer c.reserve.new.self c.args.unit c.need-need.result c.reserve.result is_done c.reserve.ensures.reserved less keep bytes (subst (λ (w : LogState). IsTied keep w bytes) (sym was) tied)

pub returns-else-has_operations-clause-tied : goal.returns-else-has_operations-clause-tied
returns-else-has_operations-clause-tied g c = λ keep bytes tied.
    let was : c.self.inside.writer ≡ c.args.self.now.writer = ap (λ (l : KeptLog). l.writer) c.self.view_is in
    c.release.ensures.tied keep bytes (subst (λ (w : LogState). IsTied keep w bytes) (sym was) tied)
