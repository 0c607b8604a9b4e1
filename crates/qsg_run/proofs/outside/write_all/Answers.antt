use Rattle.std.proofs.Common.{arith}
use Rattle.std.proofs.lemmas.List.{take_rest}
use Rattle.std.proofs.lemmas.Result.{err_from_is_err_and}
use Rattle.qsg_run.proofs.Pieces.{wrote_front, wrote_more}
use Rattle.qsg_run.proofs.outside.write_all.Goals as goal

pub returns-in_err-count-clause-front : goal.returns-in_err-count-clause-front
returns-in_err-count-clause-front g c =
    let p = err_from_is_err_and c.from_residual.result c.from_residual.ensures.1 in
    rw p.1 (wrote_front _ _ _ c.args.text.now c.loop-rest.rest.now c.loop-rest.invariant.wrote c.in_err-count.ensures.bytes)

pub loop-rest-preserved : goal.loop-rest-preserved
loop-rest-preserved g c = record {
  wrote = rw (take_rest c.loop-rest.rest.now c.in_ok-count.count) (wrote_more _ _ _ c.args.text.now c.loop-rest.rest.now c.in_ok-count.count c.loop-rest.invariant.wrote c.in_ok-count.ensures.bound c.in_ok-count.ensures.bytes);
  later = omega (arith, c.write.ensures.cause.later);
}
