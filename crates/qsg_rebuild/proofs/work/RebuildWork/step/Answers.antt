use Rattle.qsg_parts.specs.Owned.{owned}
use Rattle.qsg_rebuild.proofs.Leaving.{step_place}
use Rattle.qsg_rebuild.proofs.Needing.{ready_after}
use Rattle.qsg_rebuild.proofs.work.RebuildWork.step.Goals as goal

pub returns-clause-place : goal.returns-clause-place
returns-clause-place g c = step_place c.args.self.now (owned c.args.parts.now) c.make.result c.make.new.self (owned c.make.new.parts) c.make.ensures.next

pub returns-clause-ready : goal.returns-clause-ready
returns-clause-ready g c = ready_after c.args.self.now (owned c.args.parts.now) c.make.result c.make.new.self (owned c.make.new.parts) c.requires.may c.make.ensures.next
