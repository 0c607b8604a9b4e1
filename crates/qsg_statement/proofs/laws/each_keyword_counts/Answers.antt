use Rattle.qsg_statement.proofs.Keys.{each_counts}
use Rattle.qsg_statement.proofs.laws.each_keyword_counts.Goals as goal

pub returns : goal.returns
returns c = each_counts
