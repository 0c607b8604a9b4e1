use Rattle.qsg_reading.proofs.Own.{fed_reading, good_reading, read_reading}
use Rattle.qsg_reading.proofs.laws.a_walk_goes_on_reading.Goals as goal

pub returns-clause-fed : goal.returns-clause-fed
returns-clause-fed c = fed_reading

pub returns-clause-good : goal.returns-clause-good
returns-clause-good c = good_reading

pub returns-clause-read : goal.returns-clause-read
returns-clause-read c = read_reading
