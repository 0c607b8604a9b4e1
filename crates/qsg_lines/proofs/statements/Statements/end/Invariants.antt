use Rattle.std.proofs.Common.{◌≡◌, ◌+◌, ◌≤◌, length}
use Rattle.qsg_lines.specs.Lines.{lines_of}
use Rattle.qsg_lines.proofs.statements.Statements.end.Given as goal

abbrev pub invariant-loop-rest : goal.invariant-loop-rest
invariant-loop-rest l = record {
  end : l.line + length (lines_of l.rest) ≡ l.self.end;
  room : l.line + length l.rest ≤ 4194305;
}

abbrev pub decreases-loop-rest : goal.decreases-loop-rest
decreases-loop-rest l = length l.rest
