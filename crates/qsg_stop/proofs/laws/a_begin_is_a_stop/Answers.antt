use Rattle.std.proofs.Common.{ap}
use Rattle.qsg_parts.specs.Owned.{Owned}
use Rattle.qsg_stop.specs.Machine.{group_in}
use Rattle.qsg_stop.proofs.Downing.{begun_stops}
use Rattle.qsg_stop.proofs.Leaving.{rest_left}
use Rattle.qsg_stop.proofs.laws.a_begin_is_a_stop.Goals as goal

pub returns-clause-begun : goal.returns-clause-begun
returns-clause-begun c = begun_stops

pub returns-clause-step : goal.returns-clause-step
returns-clause-step c = λ rest w p turn v q next. ap (λ (x : Owned). group_in rest x) (rest_left w p turn v q next).parts
