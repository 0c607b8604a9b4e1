use Rattle.qsg_peer.proofs.Settling.{mark_off_is_step}
use Rattle.qsg_peer.proofs.laws.a_mark_that_comes_off_is_a_peers_settle.Goals as goal

pub returns : goal.returns
returns c = mark_off_is_step
