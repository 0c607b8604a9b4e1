use Rattle.qsg_group.proofs.Runs.{outlives}
use Rattle.qsg_group.proofs.laws.a_safe_unit_outlives_its_member.Goals as goal

pub returns : goal.returns
returns c = outlives
