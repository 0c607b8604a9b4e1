use Rattle.qsg_commit.proofs.Finishing.{giving_up_backs_out}
use Rattle.qsg_commit.proofs.laws.giving_up_is_a_backout.Goals as goal

pub returns : goal.returns
returns c = giving_up_backs_out
