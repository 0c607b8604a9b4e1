use Rattle.qsg_group.proofs.Reading.{none_pending}
use Rattle.qsg_group.proofs.laws.a_group_at_rest_has_no_pending_entries.Goals as goal

pub returns : goal.returns
returns c = none_pending
