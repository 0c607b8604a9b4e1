use Rattle.qsg_parts.specs.Owned.{owned}
use Rattle.qsg_stop.proofs.Needing.{may_after}
use Rattle.qsg_stop.proofs.work.StopWork.step.Goals as goal

pub returns-clause-may : goal.returns-clause-may
returns-clause-may g c = may_after c.args.self.now (owned c.args.parts.now) c.make.result c.make.new.self (owned c.make.new.parts) c.requires.may c.make.ensures.next
