use Rattle.std.proofs.Common.{ap, ◌∙◌}
use Rattle.qsg_group.specs.declared.tasks.Task.{Task}
use Rattle.qsg_manager.proofs.Takes.{got_made}
use Rattle.qsg_manager.proofs.getting.take_entry.Goals as goal

pub returns-clause-added : goal.returns-clause-added
returns-clause-added c =
    let was = c.replace-name.ensures.value in
    let ops_were = c.into_vec-ops.ensures ∙ ap (λ (t : Task). t.ops) was in
    let claims_were = c.into_vec-claims.ensures ∙ ap (λ (t : Task). t.claims) was in
    got_made c.take_with-result.result c.args.task.now c.args.connection _ _ _ _ _
    (ap (λ (t : Task). t.unit) was) (ap (λ (t : Task). t.stage) was)
    (rw c.from_vec.ensures (rw ops_were at (rw c.in-Ok.ensures at c.take_with-result.ensures.ops)))
    (rw c.from_vec-2.ensures (rw claims_were at (rw c.in-Ok.ensures at c.take_with-result.ensures.claims)))
