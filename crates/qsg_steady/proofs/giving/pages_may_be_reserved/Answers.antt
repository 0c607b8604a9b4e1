use Rattle.qsg_steady.proofs.Gives.{few, idle_run, idle_next, kept_written}
use Rattle.qsg_steady.proofs.giving.pages_may_be_reserved.Goals as goal

pub returns-clause-few : goal.returns-clause-few
returns-clause-few c = few

pub returns-clause-idle : goal.returns-clause-idle
returns-clause-idle c = idle_run

pub returns-clause-next : goal.returns-clause-next
returns-clause-next c = idle_next

pub returns-clause-kept : goal.returns-clause-kept
returns-clause-kept c = kept_written
