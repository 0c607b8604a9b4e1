use Rattle.qsg_logs.proofs.Within.{reserved_fits}
use Rattle.qsg_logs.proofs.laws.what_is_reserved_fits.Goals as goal

pub returns : goal.returns
returns c = reserved_fits
