use Rattle.qsg_model.proofs.Longer.{held-push}
use Rattle.qsg_model.proofs.laws.each_item_acts_on_what_was_held.Goals as goal

pub returns : goal.returns
returns c = λ h i. held-push h i
