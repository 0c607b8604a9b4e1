use Rattle.qsg_answered.proofs.Steps.{roomy_fitting}
use Rattle.qsg_answered.proofs.laws.a_step_that_wants_memory_keeps_answers_fitting.Goals as goal

pub returns : goal.returns
returns c = roomy_fitting
