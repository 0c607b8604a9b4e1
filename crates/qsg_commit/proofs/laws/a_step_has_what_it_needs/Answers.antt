use Rattle.qsg_commit.proofs.Fitting.{may_step}
use Rattle.qsg_commit.proofs.laws.a_step_has_what_it_needs.Goals as goal

pub returns : goal.returns
returns c = may_step
