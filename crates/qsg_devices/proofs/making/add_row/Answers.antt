use Rattle.std.proofs.Common.{length, ap, arith}
use Rattle.std.proofs.lemmas.Result.{err_from_is_err_and}
use Rattle.qsg_num.specs.Seats.{member_number}
use Rattle.qsg_devices.specs.declared.making.MakeFault.TheVariants as fault
use Rattle.qsg_devices.proofs.Made.{carried, sets_as_many}
use Rattle.qsg_devices.proofs.making.add_row.Goals as goal

pub returns-in_err-row-clause-place : goal.returns-in_err-row-clause-place
returns-in_err-row-clause-place g c = λ m k is.
    let p = err_from_is_err_and c.from_residual.result c.from_residual.ensures.1 in
    let at = c.in_err-row.ensures.place m k (carried c.from_residual.result p.0 c.in_err-row.field-0.0 (fault.Rig m k) p.1 p.2 is) in
    (omega (arith, ap member_number at.0, c.in-Some.ensures.number, c.len.ensures), at.1, at.2)

pub give_back_row-requires-clause-few : goal.give_back_row-requires-clause-few
give_back_row-requires-clause-few g c κs within =
    let many = sets_as_many c.args.shapes.now c.in_ok-row.row c.in_ok-row.ensures.new in
    let same = ap length c.in-Err.ensures.value_returned in
    omega (arith, many, same, c.requires.four)
