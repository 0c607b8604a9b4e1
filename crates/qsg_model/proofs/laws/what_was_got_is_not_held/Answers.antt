use Rattle.qsg_model.proofs.Past.{got_is_unheld, got_was_put}
use Rattle.qsg_model.proofs.laws.what_was_got_is_not_held.Goals as goal

pub returns-clause-unheld : goal.returns-clause-unheld
returns-clause-unheld c = got_is_unheld

pub returns-clause-put : goal.returns-clause-put
returns-clause-put c = got_was_put
