use Rattle.qsg_datasets.proofs.Rows.{emptied_next, rest_next}
use Rattle.qsg_datasets.proofs.table.clear_all.Goals as goal

pub loop-set-preserved : goal.loop-set-preserved
loop-set-preserved g c = record {
  done = emptied_next c.args.sets.now c.loop-set.set-items c.loop-set.set-index c.set-item.result c.clear.new.self c.loop-set-test.true c.clear.ensures c.loop-set.invariant.done c.loop-set.invariant.rest;
  rest = rest_next c.args.sets.now c.loop-set.set-items c.loop-set.set-index c.set-item.result c.clear.new.self c.loop-set-test.true c.loop-set.invariant.rest;
}
