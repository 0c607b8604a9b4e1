use Rattle.qsg_manager.proofs.Bridges.{write_adds}
use Rattle.qsg_manager.proofs.views.a_write_adds.Goals as goal

pub returns : goal.returns
returns c = write_adds
