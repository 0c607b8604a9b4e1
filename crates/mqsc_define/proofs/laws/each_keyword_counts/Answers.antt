use Rattle.mqsc_define.proofs.Keys.{each_counts, each_good}
use Rattle.mqsc_define.proofs.laws.each_keyword_counts.Goals as goal

pub returns-clause-read : goal.returns-clause-read
returns-clause-read c = each_counts

pub returns-clause-good : goal.returns-clause-good
returns-clause-good c = each_good
