use Rattle.qsg_lives.proofs.Giving.{new_above, request_above, start_above, crash_above}
use Rattle.qsg_lives.proofs.Taking.{peer_above}
use Rattle.qsg_lives.proofs.Touching.{same_above}
use Rattle.qsg_lives.proofs.setting.entries_keep_ids_above_0.Goals as goal

pub returns-clause-new : goal.returns-clause-new
returns-clause-new c = new_above

pub returns-clause-requests : goal.returns-clause-requests
returns-clause-requests c = request_above

pub returns-clause-peers : goal.returns-clause-peers
returns-clause-peers c = peer_above

pub returns-clause-starts : goal.returns-clause-starts
returns-clause-starts c = start_above

pub returns-clause-crash : goal.returns-clause-crash
returns-clause-crash c = crash_above

pub returns-clause-same : goal.returns-clause-same
returns-clause-same c = same_above
