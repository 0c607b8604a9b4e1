use Rattle.qsg_manager.proofs.Ungets.{unget_is_unget}
use Rattle.qsg_manager.proofs.actions.an_unget_is_a_change.Goals as goal

pub returns : goal.returns
returns c = unget_is_unget
