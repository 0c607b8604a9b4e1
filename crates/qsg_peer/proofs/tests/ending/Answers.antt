use Rattle.qsg_peer.proofs.Needing.{may_full}
use Rattle.qsg_peer.proofs.tests.ending.Goals as goal

pub step-requires : goal.step-requires
step-requires g c = record { may = may_full c.loop-step.work.phase _ c.len.result c.len-else-len-ne8.result c.len.ensures c.if-len-ne8.false c.len-else-len-ne8.ensures c.if-len-ne4.false }
