use Rattle.qsg_get.proofs.Answering.{none_waits}
use Rattle.qsg_get.proofs.laws.no_message_comes_only_where_none_waits.Goals as goal

pub returns : goal.returns
returns c = none_waits
