use Rattle.qsg_fit.proofs.Running.{failed_keeps, failed_leaves, failed_fits}
use Rattle.qsg_fit.proofs.ends.a_failed_page_keeps_the_group_steady.Goals as goal

pub returns-clause-steady : goal.returns-clause-steady
returns-clause-steady c = failed_keeps

pub returns-clause-spares : goal.returns-clause-spares
returns-clause-spares c = failed_leaves

pub returns-clause-fits : goal.returns-clause-fits
returns-clause-fits c = failed_fits
