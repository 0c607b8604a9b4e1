use Rattle.qsg_lives.proofs.Clearing.{new_empty, request_empty, start_empty, crash_empty, clear_none}
use Rattle.qsg_lives.proofs.Taking.{peer_empty}
use Rattle.qsg_lives.proofs.Touching.{same_empty}
use Rattle.qsg_lives.proofs.setting.what_isnt_active_stays_empty.Goals as goal

pub returns-clause-new : goal.returns-clause-new
returns-clause-new c = new_empty

pub returns-clause-requests : goal.returns-clause-requests
returns-clause-requests c = request_empty

pub returns-clause-peers : goal.returns-clause-peers
returns-clause-peers c = peer_empty

pub returns-clause-starts : goal.returns-clause-starts
returns-clause-starts c = start_empty

pub returns-clause-crash : goal.returns-clause-crash
returns-clause-crash c = crash_empty

pub returns-clause-same : goal.returns-clause-same
returns-clause-same c = same_empty

pub returns-clause-clear : goal.returns-clause-clear
returns-clause-clear c = clear_none
