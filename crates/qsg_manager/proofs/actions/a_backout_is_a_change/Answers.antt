use Rattle.qsg_manager.proofs.Ending.{back_out_is_back_out}
use Rattle.qsg_manager.proofs.actions.a_backout_is_a_change.Goals as goal

pub returns : goal.returns
returns c = back_out_is_back_out
