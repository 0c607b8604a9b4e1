use Rattle.qsg_unitlog.proofs.Steps.{kept_from_run}
use Rattle.qsg_unitlog.proofs.laws.keep_rises_to_a_run.Goals as goal

pub returns : goal.returns
returns c = kept_from_run
