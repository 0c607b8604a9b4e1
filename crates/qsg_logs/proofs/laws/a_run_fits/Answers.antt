use Rattle.qsg_logs.proofs.Holding.{run_fits}
use Rattle.qsg_logs.proofs.laws.a_run_fits.Goals as goal

pub returns : goal.returns
returns c = run_fits
