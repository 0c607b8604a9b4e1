use Rattle.qsg_put.proofs.Moves.{step_moves}
use Rattle.qsg_put.proofs.laws.a_step_of_a_put_is_a_change.Goals as goal

pub returns : goal.returns
returns c = step_moves c.a_draw_is_a_change.ensures c.a_write_is_a_put.ensures
