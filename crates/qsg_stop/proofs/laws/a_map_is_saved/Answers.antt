use Rattle.std.proofs.Common.{length}
use Rattle.qsg_num.specs.Seats.{structure_at}
use Rattle.qsg_stop.specs.Steps.{begun}
use Rattle.qsg_stop.proofs.Saving.{next_saved, saved_goes_on, saved_beside, saved_safely}
use Rattle.qsg_stop.proofs.laws.a_map_is_saved.Goals as goal

pub returns-clause-begun : goal.returns-clause-begun
returns-clause-begun c = λ m p. next_saved (length p.structures) (structure_at 1) m (begun m p)

pub returns-clause-goes_on : goal.returns-clause-goes_on
returns-clause-goes_on c = saved_goes_on

pub returns-clause-beside : goal.returns-clause-beside
returns-clause-beside c = saved_beside

pub returns-clause-saved : goal.returns-clause-saved
returns-clause-saved d = saved_safely
