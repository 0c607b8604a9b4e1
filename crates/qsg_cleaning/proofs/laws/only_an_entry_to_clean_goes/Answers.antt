use Rattle.qsg_cleaning.proofs.Forgetting.{has_cleaned}
use Rattle.qsg_cleaning.proofs.laws.only_an_entry_to_clean_goes.Goals as goal

pub returns : goal.returns
returns c = has_cleaned
