use Rattle.qsg_model.proofs.Growing.{past_of-push}
use Rattle.qsg_model.proofs.laws.each_item_acts_on_what_was_left.Goals as goal

pub returns : goal.returns
returns c = past_of-push
