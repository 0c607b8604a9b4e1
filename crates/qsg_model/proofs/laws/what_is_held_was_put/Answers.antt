use Rattle.qsg_model.proofs.Past.{held_was_put}
use Rattle.qsg_model.proofs.laws.what_is_held_was_put.Goals as goal

pub returns : goal.returns
returns c = held_was_put
