use Rattle.qsg_step.specs.States.{is_member_up}
use Rattle.qsg_working.specs.Views.{state_of}
use Rattle.qsg_working.proofs.Others.{ended_has, crash_steps}
use Rattle.qsg_working.proofs.working.Working.crash.Goals as goal

pub answer-requires-2 : goal.answer-requires-2
answer-requires-2 g c = ended_has c.args.member (state_of c.args.self.now) (state_of c.end.new.self) c.end.ensures c.requires.next

pub returns-clause-crashed : goal.returns-clause-crashed
returns-clause-crashed g c =
    crash_steps c.args.member (state_of c.args.self.now) (state_of c.end.new.self) c.answer-2.new.self c.len-at.result (is_member_up c.args.member (state_of c.args.self.now)) c.if-not-is_member_up.ensures.value c.end.ensures c.len-at.ensures c.answer-2.ensures
