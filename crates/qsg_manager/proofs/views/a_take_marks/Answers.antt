use Rattle.qsg_manager.proofs.Bridges.{take_marks}
use Rattle.qsg_manager.proofs.views.a_take_marks.Goals as goal

pub returns : goal.returns
returns c = take_marks
