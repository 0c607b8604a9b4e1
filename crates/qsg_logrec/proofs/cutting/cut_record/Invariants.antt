use Rattle.std.proofs.Common.{◌≤◌, ◌++◌, length, true}
use Rattle.qsg_logrec.specs.Cutting.{cut_pieces, left_after}
use Rattle.qsg_logrec.proofs.Cuts.{IsExactSoFar}
use Rattle.qsg_logrec.proofs.cutting.cut_record.Given as goal

abbrev pub invariant-loop-rest : goal.invariant-loop-rest
invariant-loop-rest l = IsExactSoFar (l.initial.pieces.items ++ cut_pieces (length l.spelling) l.fn.left true l.spelling) l.pieces.items (left_after l.fn.left (cut_pieces (length l.spelling) l.fn.left true l.spelling)) l.left l.first l.rest × (l.left ≤ 4088)

abbrev pub decreases-loop-rest : goal.decreases-loop-rest
decreases-loop-rest l = length l.rest
