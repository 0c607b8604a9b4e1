use Rattle.std.proofs.Common.{sym, ◌∙◌}
use Rattle.qsg_working.specs.Views.{state_of}
use Rattle.qsg_working.proofs.Directing.{has_next}
use Rattle.qsg_working.proofs.Steps.{may_ask, asked_step, asks_none}
use Rattle.qsg_working.proofs.working.Working.step_next.Goals as goal

pub step_asked-requires : goal.step_asked-requires
step_asked-requires g c = record {
  workable = c.requires.workable;
  own = c.in-Some.ensures.own;
  next = has_next c.args.actor c.args.self.now.agenda c.in-Some.asked c.in-Some.ensures.value;
  may = may_ask c.args.actor c.in-Some.asked (state_of c.args.self.now) c.requires.may c.in-Some.ensures.value (sym c.cause.ensures ∙ c.in_default-cause.is);
}

pub returns-clause-next : goal.returns-clause-next
returns-clause-next g c = asked_step c.args.actor c.in-Some.asked (state_of c.args.self.now) (state_of c.step_asked.new.self) c.step_asked.result c.in-Some.ensures.value (sym c.cause.ensures ∙ c.in_default-cause.is) c.step_asked.ensures.next

pub returns-clause-settles : goal.returns-clause-settles
returns-clause-settles g c = λ needs. c.step_asked.ensures.settles (asks_none c.args.actor c.in-Some.asked (state_of c.args.self.now) c.in-Some.ensures.value needs)
