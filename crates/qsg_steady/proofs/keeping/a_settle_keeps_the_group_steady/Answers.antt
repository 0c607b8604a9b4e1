use Rattle.qsg_steady.proofs.Ending.{settled_steady}
use Rattle.qsg_steady.proofs.Spares.{settled_spares}
use Rattle.qsg_steady.proofs.keeping.a_settle_keeps_the_group_steady.Goals as goal

pub returns-clause-steady : goal.returns-clause-steady
returns-clause-steady c = settled_steady

pub returns-clause-spares : goal.returns-clause-spares
returns-clause-spares c = settled_spares
