use Rattle.qsg_steady.proofs.Gives.{unit_own, unit_live, unit_resolved}
use Rattle.qsg_steady.proofs.giving.a_unit_in_hand_is_live.Goals as goal

pub returns-clause-own : goal.returns-clause-own
returns-clause-own c = unit_own

pub returns-clause-live : goal.returns-clause-live
returns-clause-live c = unit_live

pub returns-clause-resolved : goal.returns-clause-resolved
returns-clause-resolved c = unit_resolved
