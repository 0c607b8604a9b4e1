use Rattle.qsg_logpage.proofs.Fields.{held}
use Rattle.qsg_logpage.proofs.writer.LogWriter.in_hand.Goals as goal

pub returns-in-BodySafe-clause-held : goal.returns-in-BodySafe-clause-held
returns-in-BodySafe-clause-held c = held c.self.inside c.args.self.now c.self.view_is c.self.invariant

pub returns-in_default-clause-held : goal.returns-in_default-clause-held
returns-in_default-clause-held c = held c.self.inside c.args.self.now c.self.view_is c.self.invariant
