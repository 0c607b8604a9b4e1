use Rattle.qsg_manager.proofs.Acting.{settle_is_settle}
use Rattle.qsg_manager.proofs.actions.a_settle_is_a_change.Goals as goal

pub returns : goal.returns
returns c = settle_is_settle
