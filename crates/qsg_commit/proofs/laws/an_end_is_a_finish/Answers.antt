use Rattle.qsg_commit.proofs.Finishing.{end_finishes}
use Rattle.qsg_commit.proofs.laws.an_end_is_a_finish.Goals as goal

pub returns : goal.returns
returns c = end_finishes
