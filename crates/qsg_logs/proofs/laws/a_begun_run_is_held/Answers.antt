use Rattle.qsg_logs.proofs.Holding.{begun_held}
use Rattle.qsg_logs.proofs.laws.a_begun_run_is_held.Goals as goal

pub returns : goal.returns
returns c = begun_held
