use Rattle.qsg_lives.proofs.Counting.{off_counts, off_swept}
use Rattle.qsg_lives.proofs.marking.a_mark_that_comes_off_leaves_the_others.Goals as goal

pub returns-clause-marks : goal.returns-clause-marks
returns-clause-marks c = off_counts

pub returns-clause-swept : goal.returns-clause-swept
returns-clause-swept c = off_swept
