use Rattle.qsg_lives.proofs.Counting.{step_counts, step_settled, step_swept}
use Rattle.qsg_lives.proofs.Taking.{peer_no_more}
use Rattle.qsg_lives.proofs.marking.a_peers_step_takes_its_mark_off.Goals as goal

pub returns-clause-marks : goal.returns-clause-marks
returns-clause-marks c = step_counts

pub returns-clause-counts : goal.returns-clause-counts
returns-clause-counts c = step_settled

pub returns-clause-swept : goal.returns-clause-swept
returns-clause-swept c = step_swept

pub returns-clause-above : goal.returns-clause-above
returns-clause-above c = peer_no_more
