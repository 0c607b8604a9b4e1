use Rattle.qsg_get.proofs.Moving.{step_moves}
use Rattle.qsg_get.proofs.laws.a_step_of_a_get_is_a_change.Goals as goal

pub returns : goal.returns
returns c = step_moves
