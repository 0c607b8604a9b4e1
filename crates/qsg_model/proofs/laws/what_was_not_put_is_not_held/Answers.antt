use Rattle.qsg_model.proofs.Past.{unput_is_unheld}
use Rattle.qsg_model.proofs.laws.what_was_not_put_is_not_held.Goals as goal

pub returns : goal.returns
returns c = unput_is_unheld
