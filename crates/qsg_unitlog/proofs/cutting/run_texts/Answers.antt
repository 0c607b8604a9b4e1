use Rattle.std.proofs.Common.{[], ◌∷◌}
use Rattle.qsg_logrec.specs.declared.record.LogRecord.TheVariants as r
use Rattle.qsg_group.specs.Observers.{logged_ops}
use Rattle.qsg_unitlog.specs.Units.{op_records}
use Rattle.qsg_unitlog.proofs.Logged.{are_push}
use Rattle.qsg_unitlog.proofs.cutting.run_texts.Goals as goal

pub returns-clause-ranges : goal.returns-clause-ranges
returns-clause-ranges c =
    are_push (op_records c.args.unit (logged_ops c.args.ops.now c.args.claims.now)) (r.CommitIn c.args.unit c.args.structures ∷ []) c.in_ok-texts.ensures.ranges (c.in_ok-commit_text.ensures.ranges, tt)
