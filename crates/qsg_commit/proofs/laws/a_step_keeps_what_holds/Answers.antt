use Rattle.qsg_commit.proofs.Stepping.{stepped}
use Rattle.qsg_commit.proofs.laws.a_step_keeps_what_holds.Goals as goal

pub returns : goal.returns
returns c = stepped
