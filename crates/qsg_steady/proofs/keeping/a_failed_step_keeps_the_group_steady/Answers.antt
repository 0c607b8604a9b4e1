use Rattle.qsg_steady.proofs.Committing.{failed_steady}
use Rattle.qsg_steady.proofs.Spares.{failed_spares}
use Rattle.qsg_steady.proofs.keeping.a_failed_step_keeps_the_group_steady.Goals as goal

pub returns-clause-steady : goal.returns-clause-steady
returns-clause-steady c = failed_steady

pub returns-clause-spares : goal.returns-clause-spares
returns-clause-spares c = failed_spares
