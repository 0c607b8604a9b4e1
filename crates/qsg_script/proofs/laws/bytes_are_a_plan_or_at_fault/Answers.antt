use Rattle.qsg_script.proofs.Once.{plan-or-fault}
use Rattle.qsg_script.proofs.Texts.{one_thing}
use Rattle.qsg_script.proofs.laws.bytes_are_a_plan_or_at_fault.Goals as goal

pub returns : goal.returns
returns c = plan-or-fault one_thing
