use Rattle.qsg_dataset.proofs.Filling.{IsRead}
use Rattle.qsg_dataset.proofs.header.claim_all.Given as goal

abbrev pub invariant-loop-k : goal.invariant-loop-k
invariant-loop-k l = IsRead l.rest l.map l.blocks l.k
