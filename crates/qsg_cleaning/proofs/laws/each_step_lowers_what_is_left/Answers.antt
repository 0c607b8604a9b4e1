use Rattle.qsg_cleaning.proofs.Pace.{begun_less, lowers, lowers_at_end}
use Rattle.qsg_cleaning.proofs.laws.each_step_lowers_what_is_left.Goals as goal

pub returns-clause-begun : goal.returns-clause-begun
returns-clause-begun c = begun_less

pub returns-clause-lowers : goal.returns-clause-lowers
returns-clause-lowers c = lowers

pub returns-clause-ends : goal.returns-clause-ends
returns-clause-ends c = lowers_at_end
