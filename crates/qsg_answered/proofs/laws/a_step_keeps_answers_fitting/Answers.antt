use Rattle.qsg_answered.proofs.Steps.{step_keeps_fitting}
use Rattle.qsg_answered.proofs.laws.a_step_keeps_answers_fitting.Goals as goal

pub returns : goal.returns
returns c = step_keeps_fitting
