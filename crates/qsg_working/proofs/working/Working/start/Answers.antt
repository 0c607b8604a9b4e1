use Rattle.qsg_parts.specs.Owned.{owned}
use Rattle.qsg_working.specs.Views.{state_of}
use Rattle.qsg_working.proofs.StartSteps.{start_made}
use Rattle.qsg_working.proofs.working.Working.start.Goals as goal

pub returns-in-Ok-clause-next : goal.returns-in-Ok-clause-next
returns-in-Ok-clause-next g c = λ d next. (
  c.started.ensures.moved,
  start_made c.args.member d (state_of c.args.self.now) (state_of c.started.new.self) c.in-Ok.turn c.start_reply.result c.take_start-work.result c.step.new.self c.take_start-work.new.starting c.len-at.result (owned c.step.new.parts)
      c.take_start-work.ensures.given c.take_start-work.ensures.left c.in-Ok.ensures.next c.len-at.ensures c.start_reply.ensures (c.started.ensures.started d next),
)
