use Rattle.qsg_commit.proofs.Writing.{failed_told, failed_leaves_group}
use Rattle.qsg_commit.proofs.laws.a_failed_page_leaves_all.Goals as goal

pub returns-clause-told : goal.returns-clause-told
returns-clause-told c = failed_told

pub returns-clause-group : goal.returns-clause-group
returns-clause-group c = failed_leaves_group
