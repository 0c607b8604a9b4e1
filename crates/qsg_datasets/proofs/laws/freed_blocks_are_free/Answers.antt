use Rattle.qsg_datasets.specs.Kept.{hand_of}
use Rattle.qsg_datasets.proofs.Used.{used_freed}
use Rattle.qsg_datasets.proofs.laws.freed_blocks_are_free.Goals as goal

pub returns-clause-used : goal.returns-clause-used
returns-clause-used c = λ epoch e blocks set b. used_freed epoch e set.contents.blocks blocks set.map b

pub returns-clause-given_back : goal.returns-clause-given_back
returns-clause-given_back c = λ t e set b. used_freed (hand_of t set).epoch e set.contents.blocks (hand_of t set).blocks set.map b
