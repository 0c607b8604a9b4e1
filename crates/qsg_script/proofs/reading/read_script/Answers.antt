use Rattle.std.proofs.Common.{subst, arith}
use Rattle.qsg_lines.specs.Items.{script_of}
use Rattle.qsg_draft.specs.Contents.{Contents}
use Rattle.qsg_script.specs.Script.{IsFaultAmong, Says}
use Rattle.qsg_script.proofs.Taken.{is_at_item}
use Rattle.qsg_script.proofs.reading.read_script.Goals as goal

pub returns-in-Err-clause-fault : goal.returns-in-Err-clause-fault
returns-in-Err-clause-fault c =
    is_at_item c.args.bytes.now c.in-Err.error (omega arith)
    (subst (λ (x : Contents). Says (IsFaultAmong x (script_of c.args.bytes.now).items) c.in-Err.error) c.new-draft.ensures c.in-Err.ensures.fault)
