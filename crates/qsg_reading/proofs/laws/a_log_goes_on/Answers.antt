use Rattle.qsg_reading.proofs.Others.{same_later, step_later, failed_later, cut_later}
use Rattle.qsg_reading.proofs.laws.a_log_goes_on.Goals as goal

pub returns-clause-same : goal.returns-clause-same
returns-clause-same c = same_later

pub returns-clause-step : goal.returns-clause-step
returns-clause-step c = step_later

pub returns-clause-failed : goal.returns-clause-failed
returns-clause-failed c = failed_later

pub returns-clause-cut : goal.returns-clause-cut
returns-clause-cut c = cut_later
