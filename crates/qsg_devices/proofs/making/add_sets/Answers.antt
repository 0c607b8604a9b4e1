use Rattle.std.proofs.Common.{◌≡◌, ◌∙◌, length, ap, add-one, arith, sym, subst, take}
use Rattle.std.specs.Prelude.{suc}
use Rattle.std.proofs.lemmas.Result.{err_from_is_err_and}
use Rattle.qsg_devices.specs.declared.making.MakeFault.TheVariants as fault
use Rattle.qsg_devices.specs.DataSets.{AreNewSets}
use Rattle.qsg_devices.proofs.Made.{set_made, counted_more, carried}
use Rattle.qsg_devices.proofs.making.add_sets.Goals as goal

pub loop-shape-preserved : goal.loop-shape-preserved
loop-shape-preserved g c =
    let one = c.in_ok-add_set.ensures.added in
    let kept = c.loop-shape.invariant in
    let i = c.loop-shape.shape-index in
    let more : AreNewSets (take (suc i) c.args.shapes.now) c.add_set.new.sets.items
    = subst (AreNewSets (take (suc i) c.args.shapes.now)) (sym one.added) (set_made c.args.shapes.now i _ c.loop-shape.sets.items one.set c.loop-shape-test.true kept.new one.is_new) in
    record {
      count = counted_more c.loop-shape.sets.items c.add_set.new.sets.items one.set i one.added kept.count;
      new = rw add-one more;
      later = omega (arith, kept.later, c.add_set.ensures.later);
      told = c.add_set.ensures.told ∙ kept.told;
    }

pub returns-in_err-add_set-clause-place : goal.returns-in_err-add_set-clause-place
returns-in_err-add_set-clause-place g c = λ m k is.
    let p = err_from_is_err_and c.from_residual.result c.from_residual.ensures.1 in
    let at = c.in_err-add_set.ensures.place m k (carried c.from_residual.result p.0 c.in_err-add_set.field-0.0 (fault.Rig m k) p.1 p.2 is) in
    let same : length c.add_set.new.sets.items ≡ length c.loop-shape.sets.items = ap length c.in_err-add_set.ensures.unchanged in
    (at.0, at.1, omega (arith, at.1, same, c.loop-shape.invariant.count, c.loop-shape-test.true))
