use Rattle.qsg_commit.proofs.Writing.{latch_is_begin}
use Rattle.qsg_commit.proofs.laws.a_latch_is_a_begin.Goals as goal

pub returns : goal.returns
returns c = latch_is_begin
