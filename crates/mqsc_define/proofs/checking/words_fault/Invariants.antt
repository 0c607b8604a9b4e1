use Rattle.std.proofs.Common.{◌≡◌, [], take, drop}
use Rattle.mqsc_define.specs.Faults.{words_fault}
use Rattle.mqsc_define.proofs.checking.words_fault.Given as goal

abbrev pub invariant-loop-i : goal.invariant-loop-i
invariant-loop-i l = words_fault l.object (take l.i l.words) (drop l.i l.words) ≡ words_fault l.object [] l.words
