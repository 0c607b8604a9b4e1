use Rattle.qsg_datasets.specs.Kept.{sets_of}
use Rattle.qsg_datasets.proofs.Lookups.{cut_here, has_row, length_stays, size_cut}
use Rattle.qsg_datasets.proofs.laws.each_data_set_of_a_member_is_cut.Goals as goal

pub returns-clause-each : goal.returns-clause-each
returns-clause-each c = cut_here

pub returns-clause-has : goal.returns-clause-has
returns-clause-has c = λ m k t row sets has are. has_row k m t row sets (size_cut (sets_of m sets) row are) has

pub returns-clause-structures : goal.returns-clause-structures
returns-clause-structures c = λ m k row sets are. length_stays k m row sets (size_cut (sets_of m sets) row are)
