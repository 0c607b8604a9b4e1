use Rattle.std.proofs.Common.{◌∙◌, add-one, arith, sym, subst, take}
use Rattle.std.specs.Prelude.{suc}
use Rattle.std.specs.List.{AllByRecursion}
use Rattle.std.proofs.lemmas.Result.{err_from_is_err_and}
use Rattle.qsg_devices.specs.declared.making.MakeFault.TheVariants as fault
use Rattle.qsg_devices.specs.Logs.{AreNewLogs}
use Rattle.qsg_devices.specs.DataSets.{AreNewSets}
use Rattle.qsg_devices.proofs.Made.{log_made, all_more, counted_more, carried}
use Rattle.qsg_devices.proofs.making.add_members.Goals as goal

pub loop-member-preserved : goal.loop-member-preserved
loop-member-preserved g c =
    let log = c.in_ok-add_member.ensures.log in
    let row = c.in_ok-add_member.ensures.row in
    let kept = c.loop-member.invariant in
    let i = c.loop-member.member-index in
    let more : AreNewLogs (take (suc i) c.args.members.now) c.add_member.new.made.logs.items
    = subst (AreNewLogs (take (suc i) c.args.members.now)) (sym log.added) (log_made c.args.members.now i c.member-item.result c.loop-member.made.logs.items log.log c.loop-member-test.true c.member-item.is kept.new log.is_new) in
    record {
      logs = counted_more c.loop-member.made.logs.items c.add_member.new.made.logs.items log.log i log.added kept.logs;
      rows = counted_more c.loop-member.made.rows.items c.add_member.new.made.rows.items row.row i row.added kept.rows;
      new = rw add-one more;
      each = subst (AllByRecursion (AreNewSets c.args.shapes.now)) (sym row.added) (all_more (AreNewSets c.args.shapes.now) c.loop-member.made.rows.items row.row kept.each row.are_new);
      later = omega (arith, kept.later, c.add_member.ensures.later);
      told = c.add_member.ensures.told ∙ kept.told;
    }

pub returns-in_err-add_member-clause-stopped : goal.returns-in_err-add_member-clause-stopped
returns-in_err-add_member-clause-stopped g c = λ m k is.
    let p = err_from_is_err_and c.from_residual.result c.from_residual.ensures.1 in
    c.in_err-add_member.ensures.stopped m k (carried c.from_residual.result p.0 c.in_err-add_member.field-0.0 (fault.Rig m k) p.1 p.2 is)
