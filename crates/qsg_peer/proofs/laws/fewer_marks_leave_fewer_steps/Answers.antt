use Rattle.qsg_peer.proofs.PaceLists.{above_added, above_revised}
use Rattle.qsg_peer.proofs.Pace.{steps_fewer, off_fewer}
use Rattle.qsg_peer.proofs.laws.fewer_marks_leave_fewer_steps.Goals as goal

pub returns-clause-left : goal.returns-clause-left
returns-clause-left c = steps_fewer

pub returns-clause-off : goal.returns-clause-off
returns-clause-off c = off_fewer

pub returns-clause-added : goal.returns-clause-added
returns-clause-added c = above_added

pub returns-clause-revised : goal.returns-clause-revised
returns-clause-revised c = above_revised
