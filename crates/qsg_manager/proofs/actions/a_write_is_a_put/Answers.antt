use Rattle.qsg_manager.proofs.Acting.{write_is_put}
use Rattle.qsg_manager.proofs.actions.a_write_is_a_put.Goals as goal

pub returns : goal.returns
returns c = write_is_put
