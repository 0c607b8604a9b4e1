use Rattle.qsg_stop.proofs.Leaving.{rest_left, others_left}
use Rattle.qsg_stop.proofs.laws.a_stop_leaves_other_members.Goals as goal

pub returns-clause-begun : goal.returns-clause-begun
returns-clause-begun c = others_left

pub returns-clause-step : goal.returns-clause-step
returns-clause-step c = rest_left
