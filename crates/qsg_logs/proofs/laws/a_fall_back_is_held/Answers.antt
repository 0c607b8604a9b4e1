use Rattle.qsg_logs.proofs.Holding.{fall_back_less, fall_back_held}
use Rattle.qsg_logs.proofs.laws.a_fall_back_is_held.Goals as goal

pub returns-clause-less : goal.returns-clause-less
returns-clause-less c = fall_back_less

pub returns-clause-held : goal.returns-clause-held
returns-clause-held c = fall_back_held
