use Rattle.qsg_steady.proofs.Gives.{lawful_told}
use Rattle.qsg_steady.proofs.giving.a_steady_group_is_lawful.Goals as goal

pub returns : goal.returns
returns c = lawful_told
