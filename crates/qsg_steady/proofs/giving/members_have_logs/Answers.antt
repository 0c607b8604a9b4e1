use Rattle.qsg_steady.proofs.Gives.{member_has}
use Rattle.qsg_steady.proofs.giving.members_have_logs.Goals as goal

pub returns : goal.returns
returns c = member_has
