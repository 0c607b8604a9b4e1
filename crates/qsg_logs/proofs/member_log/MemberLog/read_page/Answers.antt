use Rattle.qsg_logs.proofs.Found.{found_in}
use Rattle.qsg_logs.proofs.member_log.MemberLog.read_page.Goals as goal

pub returns-clause-found : goal.returns-clause-found
returns-clause-found g c = found_in _ c.args.self.now c.args.no.number c.read_page.result c.self.view_is c.self.invariant.1.extent_is c.read_page.ensures.lap c.read_page.ensures.page
