use Rattle.std.proofs.Common.{◌≡◌, ◌≤◌, ◌++◌, drop}
use Rattle.qsg_logrec.specs.Cutting.{run_pieces}
use Rattle.qsg_logrec.proofs.cutting.cut_run.Given as goal

abbrev pub invariant-loop-record : goal.invariant-loop-record
invariant-loop-record l = (l.pieces.items ++ run_pieces l.left (drop l.record-index l.records) ≡ run_pieces 4088 l.records) × (l.left ≤ 4088)
