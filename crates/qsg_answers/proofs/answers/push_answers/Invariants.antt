use Rattle.std.proofs.Common.{◌≡◌, ◌+◌, ◌++◌, drop}
use Rattle.qsg_answers.specs.Answers.{answers_from}
use Rattle.qsg_answers.proofs.answers.push_answers.Given as goal

abbrev pub invariant-loop-at : goal.invariant-loop-at
invariant-loop-at l = l.out.items ++ answers_from l.labels (l.at + 1) (drop l.at l.answers) ≡ l.fn.out.items ++ answers_from l.labels 1 l.answers
