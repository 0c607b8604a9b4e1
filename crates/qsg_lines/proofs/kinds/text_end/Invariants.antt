use Rattle.std.proofs.Common.{◌≡◌, ℕ, ◌<◌, ◌≤◌, true, length, get_or}
use Rattle.qsg_lines.specs.Lines.{is_blank}
use Rattle.qsg_lines.proofs.kinds.text_end.Given as goal

abbrev pub invariant-loop-end : goal.invariant-loop-end
invariant-loop-end l = record {
  within : l.end ≤ length l.line;
  blank : (k : ℕ) → l.end ≤ k → k < length l.line → is_blank (get_or l.line k 0) ≡ true;
}

abbrev pub decreases-loop-end : goal.decreases-loop-end
decreases-loop-end l = l.end
