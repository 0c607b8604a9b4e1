use Rattle.qsg_pace.proofs.Steps.{step_leaves_less}
use Rattle.qsg_pace.proofs.laws.each_step_that_moves_leaves_less.Goals as goal

pub returns : goal.returns
returns c = step_leaves_less
