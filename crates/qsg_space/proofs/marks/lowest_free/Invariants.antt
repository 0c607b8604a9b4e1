use Rattle.std.proofs.Common.{drop}
use Rattle.qsg_space.specs.Spaces.{free_from, free_blocks}
use Rattle.qsg_space.proofs.Finding.{IsFoundSoFar}
use Rattle.qsg_space.proofs.marks.lowest_free.Given as goal

abbrev pub invariant-loop-k : goal.invariant-loop-k
invariant-loop-k l = IsFoundSoFar l.found.items (free_from l.k (drop l.k l.used)) (free_blocks l.used) l.n
