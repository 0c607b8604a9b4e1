use Rattle.qsg_logpage.proofs.Runs.{new_log}
use Rattle.qsg_logpage.proofs.laws.new_log_is_empty.Goals as goal

pub returns : goal.returns
returns c = new_log
