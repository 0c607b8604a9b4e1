use Rattle.std.proofs.Common.{◌∙◌, length, ap, arith}
use Rattle.qsg_devices.specs.declared.making.MakeFault.TheVariants as fault
use Rattle.qsg_devices.proofs.Made.{same_err}
use Rattle.qsg_devices.proofs.Returned.{row_back}
use Rattle.qsg_devices.proofs.making.new_row.Goals as goal

pub returns-in-Err-clause-place : goal.returns-in-Err-clause-place
returns-in-Err-clause-place g c = λ m k is.
    let at = c.in-Err.ensures.place m k (same_err c.in-Err.fault (fault.Rig m k) is) in
    (at.0, omega (arith, at.1), at.2)

pub returns-in-Err-clause-back : goal.returns-in-Err-clause-back
returns-in-Err-clause-back g c = λ tells m k is s before.
    let at = c.in-Err.ensures.place m k (same_err c.in-Err.fault (fault.Rig m k) is) in
    row_back g.D.Disk.bytes c.args.member c.from_vec-row.result s (g.R.Rig.given c.add_sets-made.new.rig) (g.R.Rig.given c.give_back_row.new.rig) m at.0
    (omega (arith, at.1, before, ap length c.from_vec-row.ensures))
    (c.give_back_row.ensures.given (c.in-Err.ensures.told ∙ tells))
