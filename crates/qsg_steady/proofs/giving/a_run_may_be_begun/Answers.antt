use Rattle.qsg_steady.proofs.Gives.{latch_idle, run_has_room}
use Rattle.qsg_steady.proofs.giving.a_run_may_be_begun.Goals as goal

pub returns-clause-idle : goal.returns-clause-idle
returns-clause-idle c = latch_idle

pub returns-clause-fits : goal.returns-clause-fits
returns-clause-fits c = run_has_room
