use Rattle.std.proofs.Common.{◌∙◌, ◌++◌, ◌∷◌, [], ◌+◌, ap, sym, arith}
use Rattle.qsg_devices.specs.Places.{row_bytes, rows_bytes}
use Rattle.qsg_devices.proofs.Returned.{both_back, rows_more, split_more, split_within, length_more, not_none}
use Rattle.qsg_devices.proofs.returning.give_back_rows.Goals as goal

pub loop-row-preserved-in-Some-new : goal.loop-row-preserved-in-Some-new
loop-row-preserved-in-Some-new g c =
    let kept = c.loop-row.invariant in
    let row = c.in-Some.row in
    let before = c.loop-row.yielded in
    record {
      split = split_more c.args.rows before row c.loop-row.row-iterator.rest.items c.next.new.self.rest.items kept.split c.in-Some.ensures.steps.0;
      count = ap (λ n. n + 1) kept.count ∙ sym (length_more before row);
      given = λ tells.
          both_back g.D.Disk.bytes (rows_bytes before) (row_bytes c.in-Some-new.member row) (rows_bytes (before ++ row ∷ [])) (g.R.Rig.given c.args.rig.now) (g.R.Rig.given c.loop-row.rig) (g.R.Rig.given c.give_back_row.new.rig)
          (rows_more before row c.in-Some-new.member (c.in-Some-new.ensures.number ∙ ap (λ n. n + 1) kept.count))
          (kept.given tells)
          (c.give_back_row.ensures.given (kept.told ∙ tells));
      later = omega (arith, kept.later, c.give_back_row.ensures.later);
      told = c.give_back_row.ensures.told ∙ kept.told;
    }

pub loop-row-preserved : goal.loop-row-preserved
loop-row-preserved g c =
    let kept = c.loop-row.invariant in
    let within = split_within c.args.rows c.loop-row.yielded c.in-Some.row c.loop-row.row-iterator.rest.items c.next.new.self.rest.items kept.split c.in-Some.ensures.steps.0 in
    absurd (not_none c.new.result c.in_default.is (c.new.ensures.valid.1 (omega arith, omega (arith, within, kept.count, c.requires.few))))
