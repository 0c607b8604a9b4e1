use Rattle.qsg_manager.proofs.Ending.{finish_is_finish}
use Rattle.qsg_manager.proofs.actions.a_finish_is_a_change.Goals as goal

pub returns : goal.returns
returns c = finish_is_finish
