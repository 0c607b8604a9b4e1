use Rattle.qsg_unitlog.proofs.Steps.{begun_tells}
use Rattle.qsg_unitlog.proofs.laws.a_run_is_taken_in_hand.Goals as goal

pub returns : goal.returns
returns c = begun_tells
