use Rattle.qsg_lives.proofs.Structures.{none_changed}
use Rattle.qsg_lives.proofs.marking.the_same_structures_have_the_same_marks.Goals as goal

pub returns : goal.returns
returns c = none_changed
