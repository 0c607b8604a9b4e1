use Rattle.qsg_lives.proofs.Giving.{start_marks, crash_marks, new_marks}
use Rattle.qsg_lives.proofs.Taking.{peer_few}
use Rattle.qsg_lives.proofs.setting.other_steps_set_no_marks.Goals as goal

pub returns-clause-peers : goal.returns-clause-peers
returns-clause-peers c = peer_few

pub returns-clause-starts : goal.returns-clause-starts
returns-clause-starts c = start_marks

pub returns-clause-crash : goal.returns-clause-crash
returns-clause-crash c = crash_marks

pub returns-clause-new : goal.returns-clause-new
returns-clause-new c = new_marks
