use Rattle.qsg_get.proofs.Onward.{step_goes_on, step_passes}
use Rattle.qsg_get.proofs.laws.a_get_that_goes_on_may_go_on.Goals as goal

pub returns : goal.returns
returns c = record { may = step_goes_on; pass = step_passes }
