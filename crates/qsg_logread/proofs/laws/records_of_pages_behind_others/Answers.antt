use Rattle.qsg_logread.proofs.Pages.{pages_append}
use Rattle.qsg_logread.proofs.laws.records_of_pages_behind_others.Goals as goal

pub returns : goal.returns
returns c = λ begun middle after pages others records more a b. pages_append begun middle after pages others records more a b
