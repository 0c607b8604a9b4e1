use Rattle.qsg_manager.proofs.Ungets.{forget_is_forget}
use Rattle.qsg_manager.proofs.actions.a_forget_is_a_change.Goals as goal

pub returns : goal.returns
returns c = forget_is_forget
