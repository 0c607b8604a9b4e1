use Rattle.qsg_put.proofs.Results.{message_is}
use Rattle.qsg_put.proofs.laws.the_message_is_the_one_that_was_asked_for.Goals as goal

pub returns : goal.returns
returns c = message_is
