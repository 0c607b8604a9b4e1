use Rattle.std.proofs.Common.{◌∙◌}
use Rattle.qsg_lives.proofs.Giving.{request_clear, peer_clear, start_marks, crash_marks}
use Rattle.qsg_lives.proofs.setting.an_incarnation_without_marks_gets_none.Goals as goal

pub returns-clause-requests : goal.returns-clause-requests
returns-clause-requests c = request_clear

pub returns-clause-peers : goal.returns-clause-peers
returns-clause-peers c = peer_clear

pub returns-clause-starts : goal.returns-clause-starts
returns-clause-starts c = λ life w p result v q next none. start_marks life w p result v q next ∙ none

pub returns-clause-crash : goal.returns-clause-crash
returns-clause-crash c = λ life m p q crash none. crash_marks life m p q crash ∙ none
