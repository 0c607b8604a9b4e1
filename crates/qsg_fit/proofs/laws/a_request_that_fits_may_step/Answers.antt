use Rattle.qsg_fit.proofs.Fitting.{works_may}
use Rattle.qsg_fit.proofs.laws.a_request_that_fits_may_step.Goals as goal

pub returns : goal.returns
returns c = works_may
