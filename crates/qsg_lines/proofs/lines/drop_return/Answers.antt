use Rattle.std.proofs.Common.{◌-◌, length, sym, arith}
use Rattle.qsg_lines.proofs.Splits.{return_last, other_last, no_last}
use Rattle.qsg_lines.proofs.lines.drop_return.Goals as goal
use Rattle.qsg_lines.proofs.lines.drop_return.Goals.{else-len-gt0-via-then-len-gt0+else-bytes-len-eq-CARRIAGE_RETURN, else-len-gt0-via-else-len-gt0}

pub returns-then-bytes-len-eq-CARRIAGE_RETURN-clause-value : goal.returns-then-bytes-len-eq-CARRIAGE_RETURN-clause-value
returns-then-bytes-len-eq-CARRIAGE_RETURN-clause-value c =
    sym (return_last c.args.bytes.now (length c.args.bytes.now - 1) (omega arith) c.if-bytes-len-eq-CARRIAGE_RETURN.true)

pub returns-else-len-gt0-clause-value : goal.returns-else-len-gt0-clause-value
returns-else-len-gt0-clause-value c =
    elim c.else-len-gt0.branch [
      | else-len-gt0-via-then-len-gt0+else-bytes-len-eq-CARRIAGE_RETURN w ↦ sym (other_last c.args.bytes.now (length c.args.bytes.now - 1) (omega arith) w.if-bytes-len-eq-CARRIAGE_RETURN.false)
      | else-len-gt0-via-else-len-gt0 w ↦ sym (no_last c.args.bytes.now (omega arith))
    ]
