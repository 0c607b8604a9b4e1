use Rattle.qsg_logread.proofs.Joined.{IsReadSoFar}
use Rattle.qsg_logread.proofs.joining.read_pieces.Given as goal

abbrev pub invariant-loop-piece : goal.invariant-loop-piece
invariant-loop-piece l = IsReadSoFar l.old l.pieces l.piece-index l.records.items l.rest
