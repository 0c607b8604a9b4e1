use Rattle.qsg_logs.specs.Kept.{log_in}
use Rattle.qsg_manager.specs.Storage.{task_at}
use Rattle.qsg_commit.proofs.Runs.{begin_fits}
use Rattle.qsg_commit.proofs.committing.take_latch.Goals as goal

pub begin-requires-clause-fits : goal.begin-requires-clause-fits
begin-requires-clause-fits g c =
    begin_fits c.task-held.result.now (task_at c.args.member c.args.task c.args.parts.now.managers) c.in-Some-Some.unit c.as_slice-ops.result.now c.as_slice.result.now c.structures_of.result c.in-Some-Some.structures c.in_ok-run.run'
    (log_in c.args.member c.args.parts.now.logs).writer.reserved c.task-held.ensures c.in-Some-Some.is-0 c.as_slice-ops.ensures c.as_slice.ensures c.in-Some-Some.is-1 c.structures_of.ensures.some.0 c.structures_of.ensures.set
    c.in_ok-run.ensures.pages c.requires.may.fits
