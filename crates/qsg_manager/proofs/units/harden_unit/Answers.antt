use Rattle.std.proofs.Common.{ap, ◌∙◌}
use Rattle.qsg_group.specs.declared.tasks.Task.{Task}
use Rattle.qsg_manager.specs.Units.{decided, safe_stage}
use Rattle.qsg_manager.proofs.Storing.{stored}
use Rattle.qsg_manager.proofs.units.harden_unit.Goals as goal

pub returns-clause-hardened : goal.returns-clause-hardened
returns-clause-hardened c =
    stored c.args.unit.member c.args.task _ _ _ c.args.managers.now _ _ c.requires.within
    c.replace_task-held.ensures.replaced c.replace_task.ensures.replaced
    (c.decide-ops.ensures.decided ∙ ap (λ s. decided s c.replace_task-held.result) c.safe_stage-stage.ensures ∙ ap (λ (t : Task). decided (safe_stage t.stage) t) c.replace_task-held.ensures.given)
