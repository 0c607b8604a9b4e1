use Rattle.qsg_reading.proofs.Others.{later_reading, begun_reading}
use Rattle.qsg_reading.proofs.laws.a_walk_is_reading_while_a_log_goes_on.Goals as goal

pub returns-clause-later : goal.returns-clause-later
returns-clause-later c = later_reading

pub returns-clause-begun : goal.returns-clause-begun
returns-clause-begun c = begun_reading
