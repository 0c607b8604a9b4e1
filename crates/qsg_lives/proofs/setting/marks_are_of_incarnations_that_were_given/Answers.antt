use Rattle.qsg_lives.proofs.Giving.{new_given, request_given, peer_given, start_given, crash_given, next_clear}
use Rattle.qsg_lives.proofs.setting.marks_are_of_incarnations_that_were_given.Goals as goal

pub returns-clause-new : goal.returns-clause-new
returns-clause-new c = new_given

pub returns-clause-requests : goal.returns-clause-requests
returns-clause-requests c = request_given

pub returns-clause-peers : goal.returns-clause-peers
returns-clause-peers c = peer_given

pub returns-clause-starts : goal.returns-clause-starts
returns-clause-starts c = start_given

pub returns-clause-crash : goal.returns-clause-crash
returns-clause-crash c = crash_given

pub returns-clause-next : goal.returns-clause-next
returns-clause-next c = next_clear
