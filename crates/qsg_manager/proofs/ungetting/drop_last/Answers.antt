use Rattle.std.proofs.Common.{ap, ◌∙◌}
use Rattle.qsg_group.specs.declared.tasks.Task.{Task}
use Rattle.qsg_manager.specs.Units.{without_last}
use Rattle.qsg_manager.proofs.Storing.{stored}
use Rattle.qsg_manager.proofs.ungetting.drop_last.Goals as goal

pub returns : goal.returns
returns c = record {
  dropped = stored c.args.member c.args.task _ _ _ c.args.managers.now _ _ c.requires.within
      c.replace_task-held.ensures.replaced c.replace_task.ensures.replaced
      (c.without_last.ensures ∙ ap (λ (t : Task). without_last t) c.replace_task-held.ensures.given);
}
