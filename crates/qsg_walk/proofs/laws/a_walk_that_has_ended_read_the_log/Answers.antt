use Rattle.qsg_walk.proofs.Reading.{none_at_next}
use Rattle.qsg_walk.proofs.Walking.{ended}
use Rattle.qsg_walk.proofs.laws.a_walk_that_has_ended_read_the_log.Goals as goal

pub returns-clause-read : goal.returns-clause-read
returns-clause-read c = ended

pub returns-clause-idle : goal.returns-clause-idle
returns-clause-idle c = none_at_next
