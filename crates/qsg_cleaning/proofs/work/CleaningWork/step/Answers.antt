use Rattle.qsg_parts.specs.Owned.{owned}
use Rattle.qsg_cleaning.proofs.Leaving.{same_work, may_after}
use Rattle.qsg_cleaning.proofs.work.CleaningWork.step.Goals as goal

pub returns-clause-member : goal.returns-clause-member
returns-clause-member g c = (same_work c.args.self.now (owned c.args.parts.now) c.make.result c.make.new.self (owned c.make.new.parts) c.make.ensures).member

pub returns-clause-structure : goal.returns-clause-structure
returns-clause-structure g c = (same_work c.args.self.now (owned c.args.parts.now) c.make.result c.make.new.self (owned c.make.new.parts) c.make.ensures).structure

pub returns-clause-may : goal.returns-clause-may
returns-clause-may g c = may_after c.args.self.now (owned c.args.parts.now) c.make.result c.make.new.self (owned c.make.new.parts) c.make.ensures c.requires.may
