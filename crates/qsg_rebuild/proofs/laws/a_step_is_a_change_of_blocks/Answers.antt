use Rattle.qsg_rebuild.proofs.Acting.{acts, may_act}
use Rattle.qsg_rebuild.proofs.laws.a_step_is_a_change_of_blocks.Goals as goal

pub returns-clause-may : goal.returns-clause-may
returns-clause-may c = may_act

pub returns-clause-acts : goal.returns-clause-acts
returns-clause-acts c = acts
