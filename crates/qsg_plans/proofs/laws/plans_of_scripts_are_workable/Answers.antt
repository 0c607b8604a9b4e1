use Rattle.qsg_plans.proofs.Plans.{plan_workable}
use Rattle.qsg_plans.proofs.laws.plans_of_scripts_are_workable.Goals as goal

pub returns : goal.returns
returns c = plan_workable
