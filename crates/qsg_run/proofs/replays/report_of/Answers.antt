use Rattle.std.proofs.Common.{ap}
use Rattle.qsg_model.specs.Recorded.{Recorded}
use Rattle.qsg_run.proofs.Reporting.{reported}
use Rattle.qsg_run.proofs.replays.report_of.Goals as goal

pub returns : goal.returns
returns g c = reported c.args.actors.now c.args.sysplex.now _ _ c.history.result.now.items c.in_ok-shown.shown c.kept.ensures c.end_of.ensures c.in_ok-shown.ensures (ap (λ (h : Recorded). h.items) c.history.ensures) c.in_ok-report.ensures
