use Rattle.std.proofs.Common.{◌≡◌, ◌+◌, ◌≤◌, ◌||◌, ◌++◌, length}
use Rattle.qsg_lines.specs.Lines.{lines_of, sign_of, front_of, is_long}
use Rattle.qsg_lines.specs.Items.{taken}
use Rattle.qsg_lines.proofs.joining.join.Given as goal

abbrev pub invariant-loop-sign : goal.invariant-loop-sign
invariant-loop-sign l = record {
  text : l.text.items ++ (taken l.sign (lines_of l.rest)).text ≡ front_of l.line ++ (taken (sign_of l.line) (lines_of l.behind)).text;
  long : l.long || (taken l.sign (lines_of l.rest)).long ≡ is_long l.line || (taken (sign_of l.line) (lines_of l.behind)).long;
  lines : l.lines + (taken l.sign (lines_of l.rest)).lines ≡ (taken (sign_of l.line) (lines_of l.behind)).lines;
  short : length l.text.items + length l.rest ≤ length l.line + length l.behind;
  room : l.lines + length l.rest ≤ length l.behind;
}

abbrev pub decreases-loop-sign : goal.decreases-loop-sign
decreases-loop-sign l = length l.rest
