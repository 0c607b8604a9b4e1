use Rattle.std.proofs.Common.{subst}
use Rattle.std.specs.Prelude.{IfOk}
use Rattle.qsg_get.specs.Works.{IsOwn}
use Rattle.qsg_get.proofs.Records.{goes_on_own}
use Rattle.qsg_get.proofs.work.GetWork.step.Goals as goal

pub invariant_of-self : goal.invariant_of-self
invariant_of-self g c = goes_on_own c.self.inside.member _ _ _ c.advance.ensures.phase c.check_and_reserve-answer.ensures.own c.self.invariant

pub invariant_of-self-in-Connect : goal.invariant_of-self-in-Connect
invariant_of-self-in-Connect g c =
    goes_on_own c.self.inside.member _ _ _ c.advance-in-Connect.ensures.phase
    (subst (λ m. IfOk c.connect-answer.result (IsOwn m)) (subst (IsOwn c.self.inside.member) c.in-Connect.is c.self.invariant) c.connect-answer.ensures.own)
    c.self.invariant
