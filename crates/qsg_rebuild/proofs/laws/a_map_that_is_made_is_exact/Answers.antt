use Rattle.std.specs.Prelude.{refl}
use Rattle.qsg_rebuild.proofs.Keeping.{ended_stays}
use Rattle.qsg_rebuild.proofs.Listing.{exact}
use Rattle.qsg_rebuild.specs.Fitting.{ended}
use Rattle.qsg_rebuild.proofs.laws.a_map_that_is_made_is_exact.Goals as goal

pub returns-clause-stays : goal.returns-clause-stays
returns-clause-stays c = ended_stays c.every_change_keeps_starters.ensures

pub returns-clause-made : goal.returns-clause-made
returns-clause-made c = λ m g fits. c.a_starter_shuts_the_gate.ensures.ready (ended m g) g fits refl refl

pub returns-clause-exact : goal.returns-clause-exact
returns-clause-exact c = exact c.a_starter_shuts_the_gate.ensures.ready
