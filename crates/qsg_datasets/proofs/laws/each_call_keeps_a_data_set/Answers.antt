use Rattle.std.proofs.Common.{◌∙◌}
use Rattle.std.proofs.lemmas.List.{length-set}
use Rattle.qsg_num.specs.Seats.{task_number}
use Rattle.qsg_datasets.specs.Kept.{no_hand, hand_of}
use Rattle.qsg_datasets.proofs.Maps.{size_taken, size_freed, size_claimed}
use Rattle.qsg_datasets.proofs.laws.each_call_keeps_a_data_set.Goals as goal

pub returns-clause-taken : goal.returns-clause-taken
returns-clause-taken c = λ t epoch n set kept. record {
  sized = kept.sized;
  five = length-set set.hands (task_number t) _ ∙ kept.five;
  map = size_taken epoch set.contents.blocks n set.map kept.map;
}

pub returns-clause-given_back : goal.returns-clause-given_back
returns-clause-given_back c = λ t set kept. record {
  sized = kept.sized;
  five = length-set set.hands (task_number t) no_hand ∙ kept.five;
  map = size_freed (hand_of t set).epoch set.contents.blocks (hand_of t set).blocks set.map kept.map;
}

pub returns-clause-freed : goal.returns-clause-freed
returns-clause-freed c = λ epoch blocks set kept. record {
  sized = kept.sized;
  five = kept.five;
  map = size_freed epoch set.contents.blocks blocks set.map kept.map;
}

pub returns-clause-claimed : goal.returns-clause-claimed
returns-clause-claimed c = λ blocks set kept. record {
  sized = kept.sized;
  five = kept.five;
  map = size_claimed set.contents.blocks blocks set.map kept.map;
}
