use Rattle.qsg_dataset.proofs.Spelling.{one_epoch, one_map}
use Rattle.qsg_dataset.proofs.laws.a_spelling_is_of_one_map.Goals as goal

pub returns-clause-epoch : goal.returns-clause-epoch
returns-clause-epoch c = λ e f used other small low same. one_epoch e f used other small low same

pub returns-clause-map : goal.returns-clause-map
returns-clause-map c = λ e f used other size most same. one_map e f used other size most same
