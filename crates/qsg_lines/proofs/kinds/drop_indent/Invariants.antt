use Rattle.std.proofs.Common.{◌≡◌, ◌≤◌, length}
use Rattle.qsg_lines.specs.Lines.{without_indent}
use Rattle.qsg_lines.proofs.kinds.drop_indent.Given as goal

abbrev pub invariant-loop-rest : goal.invariant-loop-rest
invariant-loop-rest l = record {
  same : without_indent l.text ≡ without_indent l.rest;
  short : length l.rest ≤ length l.text;
}

abbrev pub decreases-loop-rest : goal.decreases-loop-rest
decreases-loop-rest l = length l.rest
