use Rattle.std.proofs.Common.{◌≡◌, take, replicate}
use Rattle.qsg_datasets.specs.Kept.{no_hand}
use Rattle.qsg_datasets.proofs.member_data_set.empty_all.Given as goal

abbrev pub invariant-loop-hand : goal.invariant-loop-hand
invariant-loop-hand l = take l.hand-index l.hand-items ≡ replicate l.hand-index no_hand
