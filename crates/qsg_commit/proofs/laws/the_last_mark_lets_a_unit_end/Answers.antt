use Rattle.qsg_commit.proofs.Finishing.{last_mark}
use Rattle.qsg_commit.proofs.laws.the_last_mark_lets_a_unit_end.Goals as goal

pub returns : goal.returns
returns c = last_mark
