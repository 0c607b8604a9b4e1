use Rattle.qsg_logneed.proofs.Pieces.{pages_of_cut}
use Rattle.qsg_logneed.proofs.laws.pages_are_those_of_the_cut.Goals as goal

pub returns : goal.returns
returns c = pages_of_cut
