use Rattle.std.proofs.Common.{◌∙◌, sym, subst, length}
use Rattle.std.specs.List.{AllByRecursion}
use Rattle.qsg_devices.specs.declared.making.MakeFault.TheVariants as fault
use Rattle.qsg_devices.specs.DataSets.{AreNewSets}
use Rattle.qsg_devices.specs.Places.{IsStopped}
use Rattle.qsg_devices.proofs.Made.{same_err}
use Rattle.qsg_devices.proofs.Stopped.{have_four, stopped_device, stopped_back}
use Rattle.qsg_devices.proofs.making.new_devices.Goals as goal

pub give_back-requires-clause-each : goal.give_back-requires-clause-each
give_back-requires-clause-each g c κs within =
    have_four c.args.shapes.now c.from_vec-datasets.result (subst (AllByRecursion (AreNewSets c.args.shapes.now)) (sym c.from_vec-datasets.ensures) c.in-Err.ensures.each) c.requires.four

pub returns-in-Err-clause-place : goal.returns-in-Err-clause-place
returns-in-Err-clause-place g c = λ m k is.
    stopped_device (length c.args.members.now) (length c.args.shapes.now) m k c.add_members-all.new.made.logs.items c.add_members-all.new.made.rows.items
    (c.in-Err.ensures.stopped m k (same_err c.in-Err.fault (fault.Rig m k) is)) c.in-Err.ensures.place

pub returns-in-Err-clause-back : goal.returns-in-Err-clause-back
returns-in-Err-clause-back g c = λ tells m k is n l within earlier.
    let same = same_err c.in-Err.fault (fault.Rig m k) is in
    let rows = c.from_vec-datasets.ensures in
    let stopped : IsStopped (length c.args.shapes.now) m k c.from_vec-logs.result c.from_vec-datasets.result = rw (c.from_vec-logs.ensures, rows) (c.in-Err.ensures.stopped m k same) in
    stopped_back g.D.Disk.bytes c.args.shapes.now c.from_vec-logs.result c.from_vec-datasets.result (g.R.Rig.given c.add_members-all.new.rig) (g.R.Rig.given c.give_back.new.rig) m k
    stopped
    (subst (AllByRecursion (AreNewSets c.args.shapes.now)) (sym rows) c.in-Err.ensures.each)
    (c.in-Err.ensures.back tells m k same)
    (c.give_back.ensures.given (c.in-Err.ensures.told ∙ tells))
    n l within earlier
