use Rattle.qsg_start.proofs.Needing.{may_step, only_reads, still_may}
use Rattle.qsg_start.proofs.laws.only_the_last_step_starts.Goals as goal

pub returns-clause-reads : goal.returns-clause-reads
returns-clause-reads c = only_reads

pub returns-clause-may : goal.returns-clause-may
returns-clause-may c = may_step

pub returns-clause-goes_on : goal.returns-clause-goes_on
returns-clause-goes_on c = still_may
