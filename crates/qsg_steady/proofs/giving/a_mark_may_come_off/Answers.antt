use Rattle.qsg_steady.proofs.Gives.{claim_there}
use Rattle.qsg_steady.proofs.giving.a_mark_may_come_off.Goals as goal

pub returns : goal.returns
returns c = claim_there
