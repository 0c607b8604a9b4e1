use Rattle.qsg_peer.proofs.Ahead.{ahead_knows}
use Rattle.qsg_peer.proofs.laws.a_reader_that_read_the_page_in_hand_knows.Goals as goal

pub returns : goal.returns
returns c = ahead_knows
