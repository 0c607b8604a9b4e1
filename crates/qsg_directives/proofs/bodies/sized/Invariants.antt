use Rattle.std.proofs.Common.{◌≡◌, ◌≤◌}
use Rattle.qsg_directives.specs.Bodies.{sized}
use Rattle.qsg_directives.proofs.bodies.sized.Given as goal

abbrev pub invariant-loop-i : goal.invariant-loop-i
invariant-loop-i l = (l.bytes.items ≡ sized l.i) × (l.i ≤ l.fn.length)
