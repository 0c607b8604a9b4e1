use Rattle.qsg_fit.proofs.Settling.{mark_keeps}
use Rattle.qsg_fit.proofs.ends.a_mark_keeps_the_group_steady.Goals as goal

pub returns : goal.returns
returns c = mark_keeps
