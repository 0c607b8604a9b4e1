use Rattle.qsg_unitlog.proofs.Steps.{cut_tells}
use Rattle.qsg_unitlog.proofs.laws.a_cut_drops_or_keeps_the_run_in_hand.Goals as goal

pub returns : goal.returns
returns c = cut_tells
