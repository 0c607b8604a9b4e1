use Rattle.qsg_model.proofs.Past.{count_is, floor_below}
use Rattle.qsg_model.proofs.Listed.{purged_is}
use Rattle.qsg_model.proofs.laws.losses_and_purges_are_counted.Goals as goal

pub returns-clause-count : goal.returns-clause-count
returns-clause-count c = count_is

pub returns-clause-below : goal.returns-clause-below
returns-clause-below c = floor_below

pub returns-clause-purged : goal.returns-clause-purged
returns-clause-purged c = λ k h epoch. purged_is k epoch h
