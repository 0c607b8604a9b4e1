use Rattle.qsg_steady.proofs.Gives.{down_idle, down_quiet}
use Rattle.qsg_steady.proofs.giving.a_member_that_is_down_is_idle.Goals as goal

pub returns-clause-tasks : goal.returns-clause-tasks
returns-clause-tasks c = down_idle

pub returns-clause-hand : goal.returns-clause-hand
returns-clause-hand c = down_quiet
