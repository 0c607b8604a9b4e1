use Rattle.std.proofs.Common.{arith}
use Rattle.qsg_logs.specs.Kept.{log_in}
use Rattle.qsg_put.specs.Messages.{logged}
use Rattle.qsg_put.proofs.Pages.{need_without}
use Rattle.qsg_put.proofs.steps.connect.Goals as goal

pub fall_back-requires-clause-less : goal.fall_back-requires-clause-less
fall_back-requires-clause-less g c =
    omega (arith, need_without c.args.task (logged c.args.words.now c.args.terms) (log_in c.args.member c.args.parts.now.logs), c.requires.ready.reserved)
