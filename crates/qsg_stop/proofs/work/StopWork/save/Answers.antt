use Rattle.std.proofs.Common.{refl, ap}
use Rattle.qsg_stop.specs.declared.phases.Phase.{Phase}
use Rattle.qsg_stop.specs.Steps.{with_phase}
use Rattle.qsg_stop.proofs.work.StopWork.save.Goals as goal

pub returns : goal.returns
returns g c = record {
  saved = record {
    answer = c.save-answer.result;
    call_is = c.save-answer.ensures.call;
    others = c.save-answer.ensures.others;
    turn_is = refl;
    work_is = ap (λ (x : Phase). with_phase x c.args.self.now) c.saved_phase-self.ensures;
  };
}
