use Rattle.qsg_steady.proofs.Gives.{incarnation_over, incarnation_next}
use Rattle.qsg_steady.proofs.giving.an_unresolved_incarnation_has_ended.Goals as goal

pub returns-clause-over : goal.returns-clause-over
returns-clause-over c = incarnation_over

pub returns-clause-next : goal.returns-clause-next
returns-clause-next c = incarnation_next
