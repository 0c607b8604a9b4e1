use Rattle.qsg_commit.proofs.Writing.{latched_told}
use Rattle.qsg_commit.proofs.laws.a_latched_run_is_told.Goals as goal

pub returns : goal.returns
returns c = latched_told
