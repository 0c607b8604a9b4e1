use Rattle.qsg_sysplex.proofs.sysplex.Sysplex.close.Goals as goal

pub returns-clause-given : goal.returns-clause-given
returns-clause-given g c = rw (← c.self.view_is) c.give_back.ensures.given
