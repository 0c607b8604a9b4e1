use Rattle.qsg_datasets.specs.Kept.{used_in}
use Rattle.qsg_datasets.proofs.Maps.{size_used}
use Rattle.qsg_datasets.proofs.Used.{free_given, within_given, rises_given, length_given}
use Rattle.qsg_datasets.proofs.laws.given_blocks_are_free.Goals as goal

pub returns-clause-free : goal.returns-clause-free
returns-clause-free c = λ epoch n set b has. free_given n (used_in epoch set) b has

pub returns-clause-within : goal.returns-clause-within
returns-clause-within c = λ epoch n set kept. within_given n set.contents.blocks (used_in epoch set) (size_used epoch set.contents.blocks set.map kept.map)

pub returns-clause-rise : goal.returns-clause-rise
returns-clause-rise c = λ epoch n set. rises_given n (used_in epoch set)

pub returns-clause-all : goal.returns-clause-all
returns-clause-all c = λ epoch n set room. length_given n (used_in epoch set) room
