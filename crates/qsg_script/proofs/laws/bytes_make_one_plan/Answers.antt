use Rattle.qsg_script.proofs.Once.{one-plan}
use Rattle.qsg_script.proofs.Texts.{one_thing}
use Rattle.qsg_script.proofs.laws.bytes_make_one_plan.Goals as goal

pub returns : goal.returns
returns c = one-plan one_thing
