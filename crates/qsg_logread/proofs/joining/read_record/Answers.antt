use Rattle.std.proofs.Common.{◌∷◌, []}
use Rattle.qsg_logread.proofs.Joined.{are_append}
use Rattle.qsg_logread.proofs.joining.read_record.Goals as goal

pub returns-in_ok-push-in-Ok-clause-each : goal.returns-in_ok-push-in-Ok-clause-each
returns-in_ok-push-in-Ok-clause-each c = λ are. rw c.in_ok-push-in-Ok.ensures.items (are_append c.args.records.now.items (c.in-Ok.record ∷ []) are (c.in-Ok.ensures.found.0, tt))
