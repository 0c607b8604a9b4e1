use Rattle.std.proofs.Common.{◌≡◌, replicate}
use Rattle.qsg_steady.specs.Founding.{new_manager}
use Rattle.qsg_sysplex.proofs.starting.new_managers.Given as goal

abbrev pub invariant-loop-turn : goal.invariant-loop-turn
invariant-loop-turn l = l.items.items ≡ replicate l._turn new_manager
