use Rattle.std.proofs.Common.{◌∙◌, ◌++◌, ◌∷◌, [], ◌+◌, ap, sym, arith}
use Rattle.qsg_disk.specs.declared.kinds.Kind.TheVariants.{Log}
use Rattle.qsg_devices.specs.Places.{logs_bytes}
use Rattle.qsg_devices.proofs.Returned.{one_back, log_more, split_more, length_more}
use Rattle.qsg_devices.proofs.returning.give_back_logs.Goals as goal

pub loop-log-preserved-in-Some-new : goal.loop-log-preserved-in-Some-new
loop-log-preserved-in-Some-new g c =
    let kept = c.loop-log.invariant in
    let log = c.in-Some.log in
    let before = c.loop-log.yielded in
    record {
      split = split_more c.args.logs before log c.loop-log.log-iterator.rest.items c.next.new.self.rest.items kept.split c.in-Some.ensures.steps.0;
      count = ap (λ n. n + 1) kept.count ∙ sym (length_more before log);
      given = λ tells.
          one_back g.D.Disk.bytes (logs_bytes before) (logs_bytes (before ++ log ∷ [])) (g.R.Rig.given c.args.rig.now) (g.R.Rig.given c.loop-log.rig) (g.R.Rig.given c.give_back.new.self) c.in-Some-new.member Log c.into_device.result log.bytes
          c.into_device.ensures.bytes
          (c.give_back.ensures.given (kept.told ∙ tells))
          (log_more before log c.in-Some-new.member (c.in-Some-new.ensures.number ∙ ap (λ n. n + 1) kept.count))
          (kept.given tells);
      later = omega (arith, kept.later, c.give_back.ensures.later);
      told = c.give_back.ensures.told ∙ kept.told;
    }
