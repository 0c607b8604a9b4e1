use Rattle.qsg_lives.proofs.Peers.{one_telling}
use Rattle.qsg_lives.proofs.keeping.what_logs_tell_of_a_unit_is_one.Goals as goal

pub returns : goal.returns
returns c = one_telling
