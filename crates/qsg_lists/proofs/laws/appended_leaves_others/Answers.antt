use Rattle.qsg_lists.proofs.Found.{entry_at-append_other}
use Rattle.qsg_lists.proofs.laws.appended_leaves_others.Goals as goal

pub returns : goal.returns
returns c = λ id es e differ. entry_at-append_other id es e differ
