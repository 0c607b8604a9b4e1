use Rattle.std.proofs.Common.{map}
use Rattle.qsg_datasets.specs.Kept.{emptied, sets_of}
use Rattle.qsg_datasets.proofs.Lookups.{length_stays, size_emptied}
use Rattle.qsg_datasets.proofs.laws.each_data_set_of_a_member_is_emptied.Goals as goal

pub returns-clause-structures : goal.returns-clause-structures
returns-clause-structures c = λ m k sets. length_stays k m (map emptied (sets_of m sets)) sets (size_emptied m sets)
