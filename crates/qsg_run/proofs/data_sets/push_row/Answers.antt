use Rattle.std.proofs.Common.{arith}
use Rattle.qsg_shown.specs.Showing.{dataset_at}
use Rattle.qsg_run.proofs.Pushing.{given_more}
use Rattle.qsg_run.proofs.data_sets.push_row.Goals as goal

pub loop-structure-preserved : goal.loop-structure-preserved
loop-structure-preserved g c =
    given_more (dataset_at c.args.sysplex.now c.args.member) c.args.structures.now c.loop-structure.structure-index _ c.args.items.now.items c.loop-structure.items.items c.push_data_set.new.items.items (omega arith) c.loop-structure.invariant c.in_ok-push_data_set.ensures
