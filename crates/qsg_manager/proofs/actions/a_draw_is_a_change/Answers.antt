use Rattle.qsg_manager.proofs.Ending.{draw_is_draw}
use Rattle.qsg_manager.proofs.actions.a_draw_is_a_change.Goals as goal

pub returns : goal.returns
returns c = draw_is_draw
