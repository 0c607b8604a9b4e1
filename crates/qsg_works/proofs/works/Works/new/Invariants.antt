use Rattle.std.proofs.Common.{◌≡◌, replicate, None}
use Rattle.qsg_works.proofs.works.Works.new.Given as goal

abbrev pub invariant-loop-turn : goal.invariant-loop-turn
invariant-loop-turn l = l.items.items ≡ replicate l._turn None
