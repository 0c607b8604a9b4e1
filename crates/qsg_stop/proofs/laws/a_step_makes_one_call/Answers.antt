use Rattle.qsg_stop.proofs.Leaving.{devices_left, repository_left}
use Rattle.qsg_stop.proofs.laws.a_step_makes_one_call.Goals as goal

pub returns-clause-device : goal.returns-clause-device
returns-clause-device c = devices_left

pub returns-clause-repository : goal.returns-clause-repository
returns-clause-repository c = repository_left
