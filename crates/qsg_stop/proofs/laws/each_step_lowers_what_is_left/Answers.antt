use Rattle.qsg_stop.proofs.Pace.{begun_left, lowers, saves_exactly, ends}
use Rattle.qsg_stop.proofs.laws.each_step_lowers_what_is_left.Goals as goal

pub returns-clause-begun : goal.returns-clause-begun
returns-clause-begun c = begun_left

pub returns-clause-lowers : goal.returns-clause-lowers
returns-clause-lowers c = lowers

pub returns-clause-saves : goal.returns-clause-saves
returns-clause-saves d = saves_exactly

pub returns-clause-ends : goal.returns-clause-ends
returns-clause-ends c = ends
