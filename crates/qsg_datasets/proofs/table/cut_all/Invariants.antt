use Rattle.std.proofs.Common.{◌≡◌, take, drop}
use Rattle.qsg_datasets.specs.Calls.{AreCut}
use Rattle.qsg_datasets.proofs.table.cut_all.Given as goal

abbrev pub invariant-loop-set : goal.invariant-loop-set
invariant-loop-set g l = record {
  done : AreCut (take l.set-index l.fn.sets) (take l.set-index l.set-items);
  rest : drop l.set-index l.set-items ≡ drop l.set-index l.fn.sets;
}
