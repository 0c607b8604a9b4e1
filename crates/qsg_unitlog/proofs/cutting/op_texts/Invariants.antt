use Rattle.std.proofs.Common.{◌≡◌, ◌++◌, drop}
use Rattle.qsg_group.specs.Observers.{logged_ops}
use Rattle.qsg_logread.specs.Records.{AreRecords, texts_of}
use Rattle.qsg_unitlog.specs.Units.{op_records}
use Rattle.qsg_unitlog.proofs.cutting.op_texts.Given as goal

abbrev pub invariant-loop-i : goal.invariant-loop-i
invariant-loop-i l =
    (l.texts.items ++ texts_of (op_records l.unit (logged_ops (drop l.i l.ops) (drop l.i l.claims))) ≡ texts_of (op_records l.unit (logged_ops l.ops l.claims)))
    × (AreRecords (op_records l.unit (logged_ops (drop l.i l.ops) (drop l.i l.claims))) → AreRecords (op_records l.unit (logged_ops l.ops l.claims)))
