use Rattle.std.proofs.Common.{◌≡◌, ◌≤◌, ◌-◌, ◌++◌, [], drop, length}
use Rattle.qsg_logrec.specs.Cutting.{bodies, Fit}
use Rattle.qsg_logrec.proofs.cutting.page_run.Given as goal

abbrev pub invariant-loop-piece : goal.invariant-loop-piece
invariant-loop-piece l = (l.pages.items ++ bodies l.area.items (drop l.piece-index l.pieces) ≡ bodies [] l.pieces) × (length l.area.items ≤ 4088) × Fit (4088 - length l.area.items) (drop l.piece-index l.pieces)
