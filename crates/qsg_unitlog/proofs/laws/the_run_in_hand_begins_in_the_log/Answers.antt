use Rattle.qsg_unitlog.proofs.Steps.{hand_within}
use Rattle.qsg_unitlog.proofs.laws.the_run_in_hand_begins_in_the_log.Goals as goal

pub returns : goal.returns
returns c = hand_within
