use Rattle.qsg_cleaning.proofs.Leaving.{rest_left}
use Rattle.qsg_cleaning.proofs.laws.a_step_leaves_the_rest.Goals as goal

pub returns : goal.returns
returns c = rest_left
