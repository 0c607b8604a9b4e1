use Rattle.qsg_lists.proofs.Found.{entry_at-id}
use Rattle.qsg_lists.proofs.laws.entry_has_its_id.Goals as goal

pub returns : goal.returns
returns c = λ id es e there. entry_at-id id es e there
