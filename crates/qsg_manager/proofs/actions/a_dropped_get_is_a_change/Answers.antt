use Rattle.qsg_manager.proofs.Ungets.{drop_is_unget}
use Rattle.qsg_manager.proofs.actions.a_dropped_get_is_a_change.Goals as goal

pub returns : goal.returns
returns c = drop_is_unget
