use Rattle.qsg_stop.proofs.Grounds.{begun_change, step_change}
use Rattle.qsg_stop.proofs.blocks.a_step_is_a_change_of_blocks.Goals as goal

pub returns-clause-begun : goal.returns-clause-begun
returns-clause-begun c = begun_change

pub returns-clause-step : goal.returns-clause-step
returns-clause-step c = step_change c.a_stopper_saves_its_map.ensures.writes
