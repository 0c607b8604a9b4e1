use Rattle.qsg_lives.proofs.Counting.{other_life}
use Rattle.qsg_lives.proofs.marking.a_unit_in_hand_is_of_no_incarnation_that_is_over.Goals as goal

pub returns : goal.returns
returns c = other_life
