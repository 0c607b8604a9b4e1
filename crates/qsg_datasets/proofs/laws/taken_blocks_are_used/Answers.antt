use Rattle.qsg_datasets.proofs.Used.{used_taken, count_taken}
use Rattle.qsg_datasets.proofs.laws.taken_blocks_are_used.Goals as goal

pub returns-clause-used : goal.returns-clause-used
returns-clause-used c = used_taken

pub returns-clause-count : goal.returns-clause-count
returns-clause-count c = count_taken
