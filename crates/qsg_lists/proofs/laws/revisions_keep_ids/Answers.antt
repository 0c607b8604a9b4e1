use Rattle.qsg_lists.proofs.Revising.{keeps-settled}
use Rattle.qsg_lists.proofs.laws.revisions_keep_ids.Goals as goal

pub returns-clause-settled : goal.returns-clause-settled
returns-clause-settled c = λ commits. (keeps-settled commits).same_id
