use Rattle.qsg_lives.proofs.Overs.{request_over, peer_over, start_over, crash_over, crash_ends}
use Rattle.qsg_lives.proofs.marking.an_incarnation_that_is_over_stays_over.Goals as goal

pub returns-clause-requests : goal.returns-clause-requests
returns-clause-requests c = request_over

pub returns-clause-peers : goal.returns-clause-peers
returns-clause-peers c = peer_over

pub returns-clause-starts : goal.returns-clause-starts
returns-clause-starts c = start_over

pub returns-clause-crash : goal.returns-clause-crash
returns-clause-crash c = crash_over

pub returns-clause-ends : goal.returns-clause-ends
returns-clause-ends c = crash_ends
