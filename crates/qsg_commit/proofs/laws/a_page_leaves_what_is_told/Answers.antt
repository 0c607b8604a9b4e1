use Rattle.qsg_commit.proofs.Writing.{page_told}
use Rattle.qsg_commit.proofs.laws.a_page_leaves_what_is_told.Goals as goal

pub returns : goal.returns
returns c = page_told
