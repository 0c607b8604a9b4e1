use Rattle.qsg_reading.proofs.Own.{new_reading}
use Rattle.qsg_reading.proofs.laws.a_new_walk_is_reading.Goals as goal

pub returns : goal.returns
returns c = new_reading
