use Rattle.std.proofs.Common.{◌≡◌, ◌+◌, ◌∙◌, length, ap, arith}
use Rattle.std.proofs.lemmas.Result.{err_from_is_err_and}
use Rattle.qsg_devices.specs.declared.making.MakeFault.TheVariants as fault
use Rattle.qsg_devices.proofs.Made.{carried, counted_more, on_err, log_stopped, row_stopped, log_first}
use Rattle.qsg_devices.proofs.making.add_member.Goals as goal

pub returns-in_err-add_log-clause-stopped : goal.returns-in_err-add_log-clause-stopped
returns-in_err-add_log-clause-stopped g c = λ m k is.
    let p = err_from_is_err_and c.from_residual.result c.from_residual.ensures.1 in
    let at = c.in_err-add_log.ensures.place m k (carried c.from_residual.result p.0 c.in_err-add_log.field-0.0 (fault.Rig m k) p.1 p.2 is) in
    log_stopped (length c.args.shapes.now) m k c.add_log.new.logs.items c.args.made.now.rows.items at.0 at.1 (ap length c.in_err-add_log.ensures.unchanged ∙ c.requires.each)

pub returns-in_err-add_log-clause-back : goal.returns-in_err-add_log-clause-back
returns-in_err-add_log-clause-back g c = λ tells m k is s before.
    let p = err_from_is_err_and c.from_residual.result c.from_residual.ensures.1 in
    let at = c.in_err-add_log.ensures.place m k (carried c.from_residual.result p.0 c.in_err-add_log.field-0.0 (fault.Rig m k) p.1 p.2 is) in
    absurd (log_first k s at.1 before)

pub returns-clause-stopped : goal.returns-clause-stopped
returns-clause-stopped g c = λ m k is.
    let at = c.add_row.ensures.place m k is in
    let one = c.in_ok-add_log.ensures.added in
    let more : length c.add_log.new.logs.items ≡ length c.args.made.now.rows.items + 1 = counted_more c.args.made.now.logs.items c.add_log.new.logs.items one.log (length c.args.made.now.rows.items) one.added c.requires.each in
    let same : length c.add_row.new.rows.items ≡ length c.args.made.now.rows.items = ap length (on_err (c.add_row.new.rows.items ≡ c.args.made.now.rows.items) c.add_row.result (fault.Rig m k) is c.add_row.ensures.unchanged) in
    row_stopped (length c.args.shapes.now) m k c.add_log.new.logs.items c.add_row.new.rows.items at.0 at.2 (omega (arith, more, same))
