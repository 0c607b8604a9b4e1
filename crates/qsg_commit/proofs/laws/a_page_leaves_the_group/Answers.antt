use Rattle.qsg_commit.proofs.Writing.{page_leaves_group}
use Rattle.qsg_commit.proofs.laws.a_page_leaves_the_group.Goals as goal

pub returns : goal.returns
returns c = page_leaves_group
