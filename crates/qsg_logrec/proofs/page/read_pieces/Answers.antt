use Rattle.std.proofs.Common.{rules, ◌≡◌, ◌++◌, ◌∷◌, [], ◌+◌, ◌-◌, ◌≤◌, length, sym, ap, subst, arith}
use Rattle.std.proofs.lemmas.List.{length-append}
use Rattle.qsg_logrec.specs.declared.piece.Piece.{Piece}
use Rattle.qsg_logrec.specs.PageReading.{pieces_at}
use Rattle.qsg_logrec.proofs.PieceLoop.{with_front, goes_on}
use Rattle.qsg_logrec.proofs.page.read_pieces.Goals as goal

pub loop-room-preserved : goal.loop-room-preserved
loop-room-preserved c =
    let p : Piece = c.in_ok-piece.piece in
    let front = c.loop-room.pieces.items in
    let total = pieces_at c.args.used c.args.used c.args.bytes.now in
    let items : c.push.new.self.items ≡ front ++ p ∷ [] = search rules in
    let bounds = c.in_ok-piece.ensures.bounds in
    let len : c.len.result ≡ length p.bytes = c.len.ensures in
    let now = goes_on front c.args.used c.loop-room.room c.loop-room.rest.now p c.in_ok-piece.after.now total (omega (arith, bounds)) c.loop-room.invariant.1 c.in_ok-piece.ensures.gives c.loop-room.invariant.0 in
    let left : c.loop-room.room - (3 + length p.bytes) ≡ c.loop-room.room - (3 + c.len.result) = ap (λ n. c.loop-room.room - (3 + n)) (sym len) in
    let size : c.loop-room.room - (3 + c.len.result) + length (front ++ p ∷ []) ≤ c.args.used = omega (arith, len, bounds, c.loop-room.invariant.1, length-append front (p ∷ [])) in
    subst (λ ps. (with_front ps (pieces_at (c.args.used - length ps) (c.loop-room.room - (3 + c.len.result)) c.in_ok-piece.after.now) ≡ total) × (c.loop-room.room - (3 + c.len.result) + length ps ≤ c.args.used)) (sym items)
    (subst (λ n. with_front (front ++ p ∷ []) (pieces_at (c.args.used - length (front ++ p ∷ [])) n c.in_ok-piece.after.now) ≡ total) left now, size)
