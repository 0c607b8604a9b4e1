use Rattle.std.proofs.Common.{ap, ◌∙◌}
use Rattle.qsg_group.specs.declared.tasks.Task.{Task}
use Rattle.qsg_group.specs.declared.tasks.Stage.TheVariants.{BackedOut}
use Rattle.qsg_manager.specs.Units.{decided}
use Rattle.qsg_manager.proofs.Storing.{stored}
use Rattle.qsg_manager.proofs.units.back_out_unit.Goals as goal

pub returns : goal.returns
returns c = record {
  backed_out = stored c.args.member c.args.task _ _ _ c.args.managers.now _ _ c.requires.within
      c.replace_task-held.ensures.replaced c.replace_task.ensures.replaced
      (c.decide.ensures.decided ∙ ap (λ (t : Task). decided (BackedOut 0) t) c.replace_task-held.ensures.given);
}
