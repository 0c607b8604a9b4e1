use Rattle.std.proofs.Common.{◌≡◌, []}
use Rattle.mqsc_admin.specs.Faults.{words_fault}
use Rattle.mqsc_admin.proofs.Steps.{left_fault}
use Rattle.mqsc_admin.proofs.checking.words_fault.Given as goal

abbrev pub invariant-loop-i : goal.invariant-loop-i
invariant-loop-i l = words_fault l.allowed l.first [] l.words ≡ left_fault l.allowed l.first l.words l.i
