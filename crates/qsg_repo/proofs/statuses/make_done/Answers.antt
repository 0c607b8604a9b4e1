use Rattle.std.proofs.Common.{arith}
use Rattle.qsg_repo.specs.Statuses.{done_smds, new_smds}
use Rattle.qsg_repo.proofs.Rows.{one-more}
use Rattle.qsg_repo.proofs.statuses.make_done.Goals as goal

pub loop-smds-preserved : goal.loop-smds-preserved
loop-smds-preserved c = one-more (done_smds c.args.recovered) c.args.row.now c.loop-smds.row c.loop-smds.smds-index new_smds c.done.result (omega (arith, c.loop-smds-test.true, c.told-row)) c.loop-smds.invariant c.done.ensures
