use Rattle.qsg_logs.proofs.Holding.{no_run_of, no_run_at_all}
use Rattle.qsg_logs.proofs.laws.no_run_is_in_hand.Goals as goal

pub returns-clause-of_unit : goal.returns-clause-of_unit
returns-clause-of_unit c = no_run_of

pub returns-clause-of_any : goal.returns-clause-of_any
returns-clause-of_any c = no_run_at_all
