use Rattle.qsg_steady.proofs.Founded.{founded}
use Rattle.qsg_steady.proofs.keeping.a_new_group_is_steady.Goals as goal

pub returns : goal.returns
returns c = founded
