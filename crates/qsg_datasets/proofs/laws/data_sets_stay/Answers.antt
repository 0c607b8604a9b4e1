use Rattle.qsg_datasets.specs.Kept.{with_set_for, sets_of}
use Rattle.qsg_datasets.proofs.Lookups.{length_stays, size_with}
use Rattle.qsg_datasets.proofs.laws.data_sets_stay.Goals as goal

pub returns-clause-structures : goal.returns-clause-structures
returns-clause-structures c = λ m k s set sets. length_stays k m (with_set_for s set (sets_of m sets)) sets (size_with m s set sets)
