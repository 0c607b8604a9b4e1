use Rattle.mqsc_admin.proofs.Keys.{each_counts}
use Rattle.mqsc_admin.proofs.laws.each_keyword_counts.Goals as goal

pub returns : goal.returns
returns c = each_counts
