use Rattle.qsg_walk.proofs.Gates.{ahead_all}
use Rattle.qsg_walk.proofs.laws.a_walk_that_has_ended_read_the_page_in_hand.Goals as goal

pub returns : goal.returns
returns c = ahead_all
