use Rattle.qsg_steady.proofs.Gives.{name_left, id_left}
use Rattle.qsg_steady.proofs.giving.names_and_ids_are_left.Goals as goal

pub returns-clause-names : goal.returns-clause-names
returns-clause-names c = name_left

pub returns-clause-ids : goal.returns-clause-ids
returns-clause-ids c = id_left
