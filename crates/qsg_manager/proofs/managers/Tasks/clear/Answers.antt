use Rattle.qsg_manager.proofs.Cleared.{cleared}
use Rattle.qsg_manager.proofs.managers.Tasks.clear.Goals as goal

pub returns : goal.returns
returns c = cleared c.self.inside.items.items c.idle_task.result c.idle_task-2.result c.idle_task-3.result c.idle_task-4.result c.idle_task-5.result c.self.invariant c.idle_task.ensures c.idle_task-2.ensures c.idle_task-3.ensures c.idle_task-4.ensures c.idle_task-5.ensures
