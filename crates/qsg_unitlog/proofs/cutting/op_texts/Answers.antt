use Rattle.std.proofs.Common.{◌+◌, false, inl, inr, arith}
use Rattle.qsg_num.specs.declared.seats.StructNo.TheVariants.{One}
use Rattle.qsg_unitlog.proofs.Logged.{logged_adds, logged_passes}
use Rattle.qsg_unitlog.proofs.cutting.op_texts.Goals as goal
use Rattle.qsg_unitlog.proofs.cutting.op_texts.Goals.{then-i-claims+then-claims-i+in_ok-op_text+in_ok-push, else-i-claims, else-i-claims-via-then-i-claims+else-claims-i, else-i-claims-via-else-i-claims}

pub loop-i-preserved : goal.loop-i-preserved
loop-i-preserved c = elim c.if-i-claims.branch [
  | then-i-claims+then-claims-i+in_ok-op_text+in_ok-push w ↦
      rw (w.texts-is, w.in_ok-push.ensures.items)
      (logged_adds c.args.unit c.args.ops.now c.args.claims.now c.loop-i.i (c.loop-i.i + 1) c.loop-i.texts.items c.index-ops-i.result _ w.in_ok-op_text.field-0 (omega arith) c.loop-i-test.true c.index-ops-i.is w.if-i-claims.true w.if-claims-i.true
      w.in_ok-op_text.ensures.text w.in_ok-op_text.ensures.ranges c.loop-i.invariant)
  | else-i-claims w ↦ elim w.else-i-claims.branch [
    | else-i-claims-via-then-i-claims+else-claims-i x ↦
        rw w.texts-is (logged_passes c.args.unit c.args.ops.now c.args.claims.now c.loop-i.i (c.loop-i.i + 1) c.loop-i.texts.items _ (omega arith) c.loop-i-test.true (inr (x.if-i-claims.true, x.if-claims-i.false)) c.loop-i.invariant)
    | else-i-claims-via-else-i-claims x ↦
        rw w.texts-is (logged_passes c.args.unit c.args.ops.now c.args.claims.now c.loop-i.i (c.loop-i.i + 1) c.loop-i.texts.items (record { connection = record { structure = One; epoch = 0 }; id = record { number = 0 }; persistent = false }) (omega arith) c.loop-i-test.true (inl (omega (arith, x.if-i-claims.false))) c.loop-i.invariant)
  ]
]
