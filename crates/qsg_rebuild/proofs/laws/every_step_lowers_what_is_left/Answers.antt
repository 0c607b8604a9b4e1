use Rattle.qsg_rebuild.proofs.Pacing.{lowers, most}
use Rattle.qsg_rebuild.proofs.laws.every_step_lowers_what_is_left.Goals as goal

pub returns-clause-most : goal.returns-clause-most
returns-clause-most c = most

pub returns-clause-lowers : goal.returns-clause-lowers
returns-clause-lowers c = lowers
