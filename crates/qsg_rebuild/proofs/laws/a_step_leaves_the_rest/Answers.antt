use Rattle.qsg_rebuild.proofs.Leaving.{step_leaves}
use Rattle.qsg_rebuild.proofs.Grounding.{left_elsewhere, ground_left}
use Rattle.qsg_rebuild.proofs.laws.a_step_leaves_the_rest.Goals as goal

pub returns-clause-rest : goal.returns-clause-rest
returns-clause-rest c = step_leaves

pub returns-clause-sets : goal.returns-clause-sets
returns-clause-sets c = λ w m s p result v q may next other. left_elsewhere w m s p q may.set (step_leaves w p result v q may next) other

pub returns-clause-grounds : goal.returns-clause-grounds
returns-clause-grounds c = λ w s p result v q may next other. ground_left w s p q may.set (step_leaves w p result v q may next) other
