use Rattle.qsg_get.proofs.Answering.{refusal_leaves}
use Rattle.qsg_get.proofs.laws.a_refused_get_leaves_its_unit.Goals as goal

pub returns : goal.returns
returns c = refusal_leaves
