use Rattle.qsg_plans.proofs.Plans.{plan_in_range}
use Rattle.qsg_plans.proofs.laws.plans_of_scripts_are_in_range.Goals as goal

pub returns : goal.returns
returns c = plan_in_range
