use Rattle.qsg_reading.proofs.Agreeing.{ended_knows_by_all}
use Rattle.qsg_reading.proofs.Own.{ended_knows}
use Rattle.qsg_reading.proofs.laws.a_walk_that_has_ended_knows.Goals as goal

pub returns-clause-log : goal.returns-clause-log
returns-clause-log c = ended_knows

pub returns-clause-logs : goal.returns-clause-logs
returns-clause-logs c = ended_knows_by_all
