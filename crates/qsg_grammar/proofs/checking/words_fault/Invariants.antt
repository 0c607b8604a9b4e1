use Rattle.std.proofs.Common.{◌≡◌, []}
use Rattle.qsg_grammar.specs.Faults.{words_fault}
use Rattle.qsg_grammar.proofs.Steps.{left_fault}
use Rattle.qsg_grammar.proofs.checking.words_fault.Given as goal

abbrev pub invariant-loop-i : goal.invariant-loop-i
invariant-loop-i l = words_fault l.draft l.row [] l.words ≡ left_fault l.draft l.row l.words l.i
