use Rattle.qsg_datasets.proofs.Used.{used_claimed}
use Rattle.qsg_datasets.proofs.laws.claimed_blocks_are_used.Goals as goal

pub returns-clause-used : goal.returns-clause-used
returns-clause-used c = λ e blocks set b kept is low. used_claimed e set.contents.blocks blocks set.map b kept.map is low
