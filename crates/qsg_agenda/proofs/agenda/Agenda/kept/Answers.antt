use Rattle.qsg_agenda.proofs.Found.{all_answered}
use Rattle.qsg_agenda.proofs.agenda.Agenda.kept.Goals as goal

pub returns : goal.returns
returns c = rw (← c.self.view_is) (all_answered c.self.inside.parts.items c.self.invariant)
