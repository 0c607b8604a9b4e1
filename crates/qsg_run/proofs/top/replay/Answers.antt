use Rattle.qsg_run.proofs.Exact.{usage, ran, checked, script}
use Rattle.qsg_run.proofs.top.replay.Goals as goal

pub returns-clause-usage : goal.returns-clause-usage
returns-clause-usage g c = usage _ _ _ _ _ _ c.finish.ensures

pub returns-clause-ran : goal.returns-clause-ran
returns-clause-ran g c = ran _ _ _ _ _ _ c.finish.ensures

pub returns-clause-checked : goal.returns-clause-checked
returns-clause-checked g c = checked _ _ _ _ _ _ c.finish.ensures

pub returns-clause-script : goal.returns-clause-script
returns-clause-script g c = script _ _ _ _ _ _ c.finish.ensures
