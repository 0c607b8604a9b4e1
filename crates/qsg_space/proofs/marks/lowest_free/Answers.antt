use Rattle.std.proofs.Common.{arith, false}
use Rattle.qsg_space.proofs.Finding.{found-one, found-pass}
use Rattle.qsg_space.proofs.marks.lowest_free.Goals as goal
use Rattle.qsg_space.proofs.marks.lowest_free.Goals.{then-not-is_used+in_ok-push, else-not-is_used}

pub loop-k-preserved : goal.loop-k-preserved
loop-k-preserved c = elim c.if-not-is_used.branch [
  | then-not-is_used+in_ok-push w ↦
      rw (w.found-is, w.in_ok-push.ensures.items)
      (found-one c.loop-k.k c.args.used.now false _ _ c.args.n c.loop-k-test.true w.if-not-is_used.true (λ e. c.if-len-n.false (omega (arith, c.len.ensures, c.loop-k.found.ok.0, e))) c.loop-k.invariant)
  | else-not-is_used w ↦ rw w.found-is (found-pass c.loop-k.k c.args.used.now false _ _ c.args.n c.loop-k-test.true w.if-not-is_used.false c.loop-k.invariant)
]
