use Rattle.qsg_put.proofs.Results.{terms_are}
use Rattle.qsg_put.proofs.laws.terms_are_those_of_the_words_or_the_queue.Goals as goal

pub returns : goal.returns
returns c = terms_are
