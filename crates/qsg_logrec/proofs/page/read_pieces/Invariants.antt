use Rattle.std.proofs.Common.{◌≡◌, ◌≤◌, ◌+◌, ◌-◌, length}
use Rattle.qsg_logrec.specs.PageReading.{pieces_at}
use Rattle.qsg_logrec.proofs.PieceLoop.{with_front}
use Rattle.qsg_logrec.proofs.page.read_pieces.Given as goal

abbrev pub invariant-loop-room : goal.invariant-loop-room
invariant-loop-room l = (with_front l.pieces.items (pieces_at (l.used - length l.pieces.items) l.room l.rest) ≡ pieces_at l.used l.used l.bytes) × (l.room + length l.pieces.items ≤ l.used)

abbrev pub decreases-loop-room : goal.decreases-loop-room
decreases-loop-room l = l.room
