use Rattle.qsg_manager.proofs.Storing.{found_stored, stays_on_err}
use Rattle.qsg_manager.proofs.getting.get_entry.Goals as goal

pub returns-clause-added : goal.returns-clause-added
returns-clause-added c =
    found_stored c.take_entry-result.result c.args.unit.member c.args.task c.args.connection _ _ _ c.args.managers.now _ _ c.requires.member
    c.replace_task-held.ensures.replaced c.replace_task.ensures.replaced (rw c.replace_task-held.ensures.given at c.take_entry-result.ensures.added)

pub returns-clause-managers_stay : goal.returns-clause-managers_stay
returns-clause-managers_stay c =
    stays_on_err c.take_entry-result.result c.args.unit.member c.args.task _ _ c.args.managers.now _ _ c.requires.member
    c.replace_task-held.ensures.replaced c.replace_task.ensures.replaced (rw c.replace_task-held.ensures.given at c.take_entry-result.ensures.task_stays)
