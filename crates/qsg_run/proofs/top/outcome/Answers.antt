use Rattle.qsg_plans.proofs.Plans.{plan_workable}
use Rattle.qsg_run.proofs.top.outcome.Goals as goal

pub obeyed-requires-after_bounds : goal.obeyed-requires-after_bounds
obeyed-requires-after_bounds g c κs within = let script = c.in_ok-plan.ensures.plan in plan_workable script.bytes c.in_ok-plan.plan script.script
