use Rattle.qsg_unitlog.proofs.Steps.{idle_cut_tells}
use Rattle.qsg_unitlog.proofs.laws.a_cut_leaves_an_idle_log.Goals as goal

pub returns : goal.returns
returns c = idle_cut_tells
