use Rattle.std.proofs.Common.{◌∙◌, ◌++◌, ◌∷◌, [], ◌+◌, ap, sym, arith}
use Rattle.qsg_disk.specs.declared.kinds.Kind.TheVariants.{DataSet}
use Rattle.qsg_devices.specs.Places.{row_bytes}
use Rattle.qsg_devices.proofs.Returned.{one_back, row_more, split_more, length_more}
use Rattle.qsg_devices.proofs.returning.give_back_row.Goals as goal

pub loop-set-preserved-in-Some-new : goal.loop-set-preserved-in-Some-new
loop-set-preserved-in-Some-new g c =
    let kept = c.loop-set.invariant in
    let set = c.in-Some.set in
    let before = c.loop-set.yielded in
    record {
      split = split_more c.args.row before set c.loop-set.set-iterator.rest.items c.next.new.self.rest.items kept.split c.in-Some.ensures.steps.0;
      count = ap (λ n. n + 1) kept.count ∙ sym (length_more before set);
      given = λ tells.
          one_back g.D.Disk.bytes (row_bytes c.args.member before) (row_bytes c.args.member (before ++ set ∷ [])) (g.R.Rig.given c.args.rig.now) (g.R.Rig.given c.loop-set.rig) (g.R.Rig.given c.give_back.new.self) c.args.member (DataSet c.in-Some-new.structure) c.into_device-device.result set.contents.bytes
          (c.into_device-device.ensures.bytes ∙ ap (λ d. d.bytes) c.into_data_set.ensures)
          (c.give_back.ensures.given (kept.told ∙ tells))
          (row_more c.args.member before set c.in-Some-new.structure (c.in-Some-new.ensures.number ∙ ap (λ n. n + 1) kept.count))
          (kept.given tells);
      later = omega (arith, kept.later, c.give_back.ensures.later);
      told = c.give_back.ensures.told ∙ kept.told;
    }
