use Rattle.qsg_logread.proofs.Runs.{run_joins}
use Rattle.qsg_logread.proofs.laws.a_run_has_its_records.Goals as goal

pub returns : goal.returns
returns c = run_joins
