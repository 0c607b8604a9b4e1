use Rattle.qsg_lists.proofs.Found.{entry_at-append}
use Rattle.qsg_lists.proofs.laws.appended_is_found.Goals as goal

pub returns : goal.returns
returns c = λ es e none. entry_at-append es e none
