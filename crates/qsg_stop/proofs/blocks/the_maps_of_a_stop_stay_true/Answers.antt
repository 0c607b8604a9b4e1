use Rattle.qsg_stop.proofs.Grounds.{begun_are_true, stays_true, true_beside}
use Rattle.qsg_stop.proofs.blocks.the_maps_of_a_stop_stay_true.Goals as goal

pub returns-clause-begun : goal.returns-clause-begun
returns-clause-begun c = begun_are_true c.a_stopper_saves_its_map.ensures.begins

pub returns-clause-goes_on : goal.returns-clause-goes_on
returns-clause-goes_on c = stays_true c.a_stopper_saves_its_map.ensures.goes_on

pub returns-clause-beside : goal.returns-clause-beside
returns-clause-beside c = true_beside c.every_change_keeps_stoppers.ensures
