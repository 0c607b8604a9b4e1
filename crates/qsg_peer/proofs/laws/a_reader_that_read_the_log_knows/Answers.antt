use Rattle.qsg_peer.proofs.Following.{reader_knows}
use Rattle.qsg_peer.proofs.laws.a_reader_that_read_the_log_knows.Goals as goal

pub returns : goal.returns
returns c = reader_knows
