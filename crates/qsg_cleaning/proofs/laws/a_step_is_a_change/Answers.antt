use Rattle.qsg_cleaning.proofs.Changing.{is_step}
use Rattle.qsg_cleaning.proofs.laws.a_step_is_a_change.Goals as goal

pub returns : goal.returns
returns c = is_step
