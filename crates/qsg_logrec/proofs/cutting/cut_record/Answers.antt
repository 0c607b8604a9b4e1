use Rattle.std.proofs.Common.{rules, ◌≡◌, ◌-◌, ◌<◌, ◌++◌, ◌∷◌, [], length, take, min, true, false, sym, ap, ◌∙◌, subst, arith}
use Rattle.std.specs.Prelude.{nat_le, ◌==◌}
use Rattle.qsg_logrec.specs.declared.piece.Piece.{Piece}
use Rattle.qsg_logrec.specs.Cutting.{cut_pieces, left_after, room_at, part_at}
use Rattle.qsg_logrec.proofs.Cuts.{IsExactSoFar, exact_next, exact_all, counted_piece, last_is}
use Rattle.qsg_logrec.proofs.cutting.cut_record.Goals as goal

pub loop-rest-preserved : goal.loop-rest-preserved
loop-rest-preserved c =
    let p : Piece = record { part = c.part.result; bytes = c.in_ok-from_slice.field-0 } in
    let rest = c.loop-rest.rest.now in
    let after = c.split_at.result.1.now in
    let more : 0 < length rest = search rules in
    let items : c.push.new.self.items ≡ c.loop-rest.pieces.items ++ p ∷ [] = search rules in
    let count : c.min-count.result ≡ min (length rest) (room_at c.loop-rest.left) = search rules in
    let piece = counted_piece rest after (room_at c.loop-rest.left) c.min-count.result count c.split_at.ensures.back in
    let bytes : c.in_ok-from_slice.field-0 ≡ take c.min-count.result rest = search rules in
    let empty : c.is_empty-in-loop-rest.result ≡ (length after == 0) = search rules in
    let last : c.part.result ≡ part_at c.loop-rest.first (nat_le (length rest) (room_at c.loop-rest.left)) =
    c.part.ensures ∙ ap (part_at c.loop-rest.first) (last_is rest after (room_at c.loop-rest.left) c.is_empty-in-loop-rest.result piece.1 empty) in
    let end_left = left_after c.args.left (cut_pieces (length c.args.spelling.now) c.args.left true c.args.spelling.now) in
    let all = c.args.pieces.now.items ++ cut_pieces (length c.args.spelling.now) c.args.left true c.args.spelling.now in (
      subst (λ ps. IsExactSoFar all ps end_left (c.room_of-room.result - c.min-count.result) false after) (sym items)
          (exact_next all c.loop-rest.pieces.items end_left c.loop-rest.left c.loop-rest.first rest p (c.room_of-room.result - c.min-count.result) after c.loop-rest.invariant.0 more
          (λ i. record { part = last i; bytes = (bytes ∙ piece.0) i }) (λ i. c.room_of-room.ensures.value i - count i) piece.1),
      omega (arith, c.room_of-room.ensures.bounds),
    )

pub returns-clause-pieces : goal.returns-clause-pieces
returns-clause-pieces c = (exact_all _ _ _ _ _ _ c.loop-rest.invariant.0 (search rules)).0

pub returns-clause-left : goal.returns-clause-left
returns-clause-left c = (exact_all _ _ _ _ _ _ c.loop-rest.invariant.0 (search rules)).1
