use Rattle.qsg_manager.proofs.Bridges.{settle_settles}
use Rattle.qsg_manager.proofs.views.a_settle_settles.Goals as goal

pub returns : goal.returns
returns c = settle_settles
