use Rattle.qsg_model.specs.History.{key, key_before}
use Rattle.qsg_model.proofs.Filling.{place_is, place_bound}
use Rattle.qsg_model.proofs.holding.place_of.Goals as goal

pub returns-clause-value : goal.returns-clause-value
returns-clause-value c = rw (c.unwrap_or.ensures, c.first_behind.ensures) (place_is (λ x. key_before (key c.args.m.now) (key x)) c.args.messages.now)

pub returns-clause-bound : goal.returns-clause-bound
returns-clause-bound c = rw (c.unwrap_or.ensures, c.first_behind.ensures) (place_bound (λ x. key_before (key c.args.m.now) (key x)) c.args.messages.now)
