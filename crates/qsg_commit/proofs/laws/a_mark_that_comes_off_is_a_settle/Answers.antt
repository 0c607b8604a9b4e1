use Rattle.qsg_commit.proofs.Finishing.{mark_settles}
use Rattle.qsg_commit.proofs.laws.a_mark_that_comes_off_is_a_settle.Goals as goal

pub returns : goal.returns
returns c = mark_settles
