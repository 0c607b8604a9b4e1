use Rattle.std.proofs.Common.{◌≡◌, Result, Err, ap}
use Rattle.std.proofs.lemmas.Result.{err_from_is_err_and}
use Rattle.qsg_logread.specs.declared.fault.Stop.{Stop}
use Rattle.qsg_logread.specs.declared.joining.Read.{Read}
use Rattle.qsg_logread.proofs.Joined.{bad_by}
use Rattle.qsg_logread.proofs.joining.read_pieces.Goals as goal

abbrev stopped : Stop → Result Read Stop
stopped e = Err e

same_stop : (a b : Stop) → stopped a ≡ stopped b → a ≡ b
same_stop a b e = cc

pub returns-in_err-rest-clause-bad : goal.returns-in_err-rest-clause-bad
returns-in_err-rest-clause-bad c =
    let p = err_from_is_err_and c.from_residual.result c.from_residual.ensures.1 in
    rw (p.1, p.2) (λ at is. bad_by c.args.old.now c.args.pieces.now c.loop-piece.piece-index c.loop-piece.records.items c.loop-piece.rest c.piece-item.result at c.loop-piece.invariant c.loop-piece-test.true c.piece-item.is
    (c.in_err-rest.ensures.bad at (ap Err (same_stop c.in_err-rest.field-0.0 _ is)) c.loop-piece.invariant.each))
