use Rattle.qsg_fit.proofs.Fitting.{first_fits}
use Rattle.qsg_fit.proofs.laws.a_request_fits_at_first.Goals as goal

pub returns : goal.returns
returns c = first_fits
