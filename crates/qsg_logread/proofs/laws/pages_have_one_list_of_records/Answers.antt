use Rattle.qsg_logread.proofs.Known.{same_pages_join}
use Rattle.qsg_logread.proofs.laws.pages_have_one_list_of_records.Goals as goal

pub returns : goal.returns
returns c = λ begun pages records others after other a b. same_pages_join begun after other pages records others a b
