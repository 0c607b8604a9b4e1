use Rattle.qsg_pace.proofs.Steps.{moved_or_still, unmade_leaves_as_many}
use Rattle.qsg_pace.proofs.laws.a_step_that_is_not_made_leaves_as_many.Goals as goal

pub returns-clause-still : goal.returns-clause-still
returns-clause-still c = moved_or_still

pub returns-clause-unmade : goal.returns-clause-unmade
returns-clause-unmade c = unmade_leaves_as_many
