use Rattle.qsg_walk.proofs.Feeding.{bad_kept}
use Rattle.qsg_walk.proofs.walk.Walk.feed.Goals as goal

pub returns-in-Err-clause-bad : goal.returns-in-Err-clause-bad
returns-in-Err-clause-bad c = λ why is. bad_kept _ _ _ why c.self.view_is c.in-Some.is (c.feed.ensures.fault why (rw c.in-Err.is is))
