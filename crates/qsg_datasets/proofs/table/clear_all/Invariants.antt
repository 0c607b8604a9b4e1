use Rattle.std.proofs.Common.{◌≡◌, take, drop, map}
use Rattle.qsg_datasets.specs.Kept.{emptied}
use Rattle.qsg_datasets.proofs.table.clear_all.Given as goal

abbrev pub invariant-loop-set : goal.invariant-loop-set
invariant-loop-set g l = record {
  done : take l.set-index l.set-items ≡ map emptied (take l.set-index l.fn.sets);
  rest : drop l.set-index l.set-items ≡ drop l.set-index l.fn.sets;
}
