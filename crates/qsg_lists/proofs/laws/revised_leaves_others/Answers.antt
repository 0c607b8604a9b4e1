use Rattle.qsg_lists.proofs.Found.{entry_at-revise_other}
use Rattle.qsg_lists.proofs.laws.revised_leaves_others.Goals as goal

pub returns : goal.returns
returns c = λ id other f es keeps differ. entry_at-revise_other id other f es keeps differ
