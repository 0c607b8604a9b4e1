use Rattle.qsg_model.proofs.Growing.{legal_grows}
use Rattle.qsg_model.proofs.laws.a_unit_that_follows_leaves_a_legal_history.Goals as goal

pub returns : goal.returns
returns c = legal_grows
