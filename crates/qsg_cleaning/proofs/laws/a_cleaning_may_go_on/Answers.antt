use Rattle.qsg_cleaning.proofs.Found.{structure_found}
use Rattle.qsg_cleaning.proofs.Leaving.{of_at, may_at}
use Rattle.qsg_cleaning.proofs.laws.a_cleaning_may_go_on.Goals as goal

pub returns-clause-found : goal.returns-clause-found
returns-clause-found c = structure_found

pub returns-clause-member : goal.returns-clause-member
returns-clause-member c = λ w p. (of_at w.phase w p).member

pub returns-clause-structure : goal.returns-clause-structure
returns-clause-structure c = λ w p. (of_at w.phase w p).structure

pub returns-clause-may : goal.returns-clause-may
returns-clause-may c = λ w p may. may_at w.phase w p may
