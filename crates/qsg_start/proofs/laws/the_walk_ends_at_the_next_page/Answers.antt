use Rattle.qsg_start.proofs.Ending.{walk_ends}
use Rattle.qsg_start.proofs.laws.the_walk_ends_at_the_next_page.Goals as goal

pub returns : goal.returns
returns c = walk_ends
