use Rattle.std.proofs.Common.{ap}
use Rattle.qsg_logs.specs.Kept.{KeptLog}
use Rattle.qsg_logs.proofs.Within.{kept_step, tied_step, earlier_step}
use Rattle.qsg_logs.proofs.member_log.MemberLog.next_step.Goals as goal

pub returns-in_err-step-clause-tied : goal.returns-in_err-step-clause-tied
returns-in_err-step-clause-tied g c = tied_step (g.D.Disk.tells c.self.inside.device) c.self.inside.writer (g.D.Disk.bytes c.self.inside.device) c.args.self.now _ _ (ap (λ (l : KeptLog). l.tells) c.self.view_is) (ap (λ (l : KeptLog). l.writer) c.self.view_is) (ap (λ (l : KeptLog). l.bytes) c.self.view_is) c.next_step.ensures.tied

pub returns-in_err-step-clause-earlier : goal.returns-in_err-step-clause-earlier
returns-in_err-step-clause-earlier g c = earlier_step (g.D.Disk.tells c.self.inside.device) c.self.inside.writer (g.D.Disk.bytes c.self.inside.device) c.args.self.now _ (ap (λ (l : KeptLog). l.tells) c.self.view_is) (ap (λ (l : KeptLog). l.writer) c.self.view_is) (ap (λ (l : KeptLog). l.bytes) c.self.view_is) c.next_step.ensures.earlier

pub invariant_of-self-2 : goal.invariant_of-self-2
invariant_of-self-2 g c =
    kept_step (g.D.Disk.extent c.self.inside.device) (g.D.Disk.extent c.next_step.new.device) c.self.inside.next.number c.self.inside.writer c.next_step.new.self c.self.inside.fillings c.in_ok-step.step c.page_after-self-inside.result.number
    c.next_step.ensures.extent c.in_ok-step.ensures.advanced c.in_ok-step.ensures.step c.page_after-self-inside.ensures c.self.invariant

pub returns-clause-tied : goal.returns-clause-tied
returns-clause-tied g c = tied_step (g.D.Disk.tells c.self.inside.device) c.self.inside.writer (g.D.Disk.bytes c.self.inside.device) c.args.self.now _ _ (ap (λ (l : KeptLog). l.tells) c.self.view_is) (ap (λ (l : KeptLog). l.writer) c.self.view_is) (ap (λ (l : KeptLog). l.bytes) c.self.view_is) c.next_step.ensures.tied

pub returns-clause-earlier : goal.returns-clause-earlier
returns-clause-earlier g c = earlier_step (g.D.Disk.tells c.self.inside.device) c.self.inside.writer (g.D.Disk.bytes c.self.inside.device) c.args.self.now _ (ap (λ (l : KeptLog). l.tells) c.self.view_is) (ap (λ (l : KeptLog). l.writer) c.self.view_is) (ap (λ (l : KeptLog). l.bytes) c.self.view_is) c.next_step.ensures.earlier
