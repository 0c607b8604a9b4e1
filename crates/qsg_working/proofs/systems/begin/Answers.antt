use Rattle.std.proofs.Common.{sym, ◌∙◌}
use Rattle.qsg_working.proofs.SystemSteps.{busy_begun}
use Rattle.qsg_working.proofs.systems.begin.Goals as goal

pub returns-then-is_busy-clause-begun : goal.returns-then-is_busy-clause-begun
returns-then-is_busy-clause-begun c = busy_begun c.args.member c.args.peers.now (sym c.is_busy.ensures ∙ c.if-is_busy.true)
