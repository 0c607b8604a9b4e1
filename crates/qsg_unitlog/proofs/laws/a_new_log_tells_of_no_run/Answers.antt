use Rattle.qsg_unitlog.proofs.Steps.{new_tells}
use Rattle.qsg_unitlog.proofs.laws.a_new_log_tells_of_no_run.Goals as goal

pub returns : goal.returns
returns c = new_tells
