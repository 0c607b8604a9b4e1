use Rattle.qsg_parts.specs.Owned.{owned}
use Rattle.qsg_working.specs.Views.{state_of}
use Rattle.qsg_working.proofs.Worked.{given_may_step, failed_may_end, work_steps, work_unmade}
use Rattle.qsg_working.proofs.working.Working.work.Goals as goal

pub step-made-requires : goal.step-made-requires
step-made-requires g c = record { may = given_may_step c.args.member c.args.task (state_of c.args.self.now) c.in_ok-work.field-0 c.in-Some.work c.in-Some.in_hand c.requires.next c.requires.may c.in_ok-work.ensures.given c.in-Some.is }

pub settle-requires : goal.settle-requires
settle-requires g c = record {
  next = c.requires.next;
  fails = failed_may_end c.args.member c.args.task (state_of c.args.self.now) c.in_ok-work.field-0 c.in-Some.work c.step-made.new.self c.in-Some.in_hand (owned c.step-made.new.parts) c.work_of.new.works c.step-made.result
      c.requires.next c.requires.may c.in_ok-work.ensures.given c.in-Some.is c.in_ok-work.ensures.taken c.step-made.ensures.next c.requires.workable.four;
}

pub returns-clause-next : goal.returns-clause-next
returns-clause-next g c =
    work_steps c.args.member c.args.task (state_of c.args.self.now) c.in_ok-work.field-0 c.in-Some.work c.step-made.new.self c.in-Some.in_hand c.len-at.result (owned c.step-made.new.parts) c.work_of.new.works
    c.step-made.result c.settle.result (state_of c.settle.new.self) c.in_ok-work.ensures.given c.in-Some.is c.len-at.ensures c.in_ok-work.ensures.taken c.step-made.ensures.next c.settle.ensures.settled

pub returns-clause-unmade : goal.returns-clause-unmade
returns-clause-unmade g c =
    work_unmade c.args.member c.args.task (state_of c.args.self.now) c.in_ok-work.field-0 c.in-Some.work c.step-made.new.self c.in-Some.in_hand (owned c.step-made.new.parts) c.work_of.new.works
    c.step-made.result c.settle.result (state_of c.settle.new.self) c.requires.next c.in_ok-work.ensures.given c.in-Some.is c.in_ok-work.ensures.taken c.step-made.ensures.unmade c.settle.ensures.unmade
