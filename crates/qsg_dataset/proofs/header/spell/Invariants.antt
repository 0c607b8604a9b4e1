use Rattle.qsg_dataset.proofs.Filling.{IsFilled}
use Rattle.qsg_dataset.proofs.header.spell.Given as goal

abbrev pub invariant-loop-k : goal.invariant-loop-k
invariant-loop-k l = IsFilled l.epoch l.map l.rest l.k
