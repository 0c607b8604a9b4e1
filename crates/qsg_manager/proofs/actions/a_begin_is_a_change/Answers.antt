use Rattle.qsg_manager.proofs.Ending.{begin_is_begin}
use Rattle.qsg_manager.proofs.actions.a_begin_is_a_change.Goals as goal

pub returns : goal.returns
returns c = begin_is_begin
