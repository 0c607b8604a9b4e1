use Rattle.qsg_fit.proofs.Requests.{roomy_steady_beside, roomy_fits}
use Rattle.qsg_fit.proofs.works.a_step_that_wants_memory_keeps_the_group_steady.Goals as goal

pub returns-clause-steady : goal.returns-clause-steady
returns-clause-steady c = roomy_steady_beside

pub returns-clause-fits : goal.returns-clause-fits
returns-clause-fits c = roomy_fits
