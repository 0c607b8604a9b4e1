use Rattle.qsg_answered.proofs.Steps.{new_answers_fit}
use Rattle.qsg_answered.proofs.laws.answers_of_a_new_group_fit.Goals as goal

pub returns : goal.returns
returns c = new_answers_fit
