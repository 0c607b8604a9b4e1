use Rattle.qsg_lists.proofs.Found.{entry_at-above}
use Rattle.qsg_lists.proofs.laws.none_above_the_last.Goals as goal

pub returns : goal.returns
returns c = λ last id es all above. entry_at-above last id es all above
