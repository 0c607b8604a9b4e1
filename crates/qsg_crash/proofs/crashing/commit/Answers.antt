use Rattle.std.proofs.Common.{ap, ◌∙◌}
use Rattle.qsg_manager.specs.Seats.{with_down}
use Rattle.qsg_crash.proofs.Downs.{down_over}
use Rattle.qsg_crash.proofs.crashing.commit.Goals as goal

pub returns-in-Some-unit-clause-down : goal.returns-in-Some-unit-clause-down
returns-in-Some-unit-clause-down g c = ap (with_down c.args.member) c.replace_task-held.ensures.replaced ∙ down_over c.args.member c.in-Some.task c.idle_task.result c.args.parts.now.managers

pub returns-in_default-unit-clause-down : goal.returns-in_default-unit-clause-down
returns-in_default-unit-clause-down g c = ap (with_down c.args.member) c.replace_task-held.ensures.replaced ∙ down_over c.args.member c.in-Some.task c.idle_task.result c.args.parts.now.managers
