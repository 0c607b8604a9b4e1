use Rattle.qsg_manager.proofs.Gets.{get_is_get}
use Rattle.qsg_manager.proofs.actions.a_get_is_a_change.Goals as goal

pub returns : goal.returns
returns c = get_is_get
