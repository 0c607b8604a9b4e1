use Rattle.qsg_lists.proofs.Found.{entry_at-revise}
use Rattle.qsg_lists.proofs.laws.revised_is_found.Goals as goal

pub returns : goal.returns
returns c = λ id f es keeps ordered. entry_at-revise id f es keeps ordered
