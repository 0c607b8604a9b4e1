use Rattle.qsg_cleaning.proofs.Pace.{some_to_do, none_to_do}
use Rattle.qsg_cleaning.proofs.laws.a_cleaning_is_to_do_where_an_entry_is_left.Goals as goal

pub returns-clause-some : goal.returns-clause-some
returns-clause-some c = some_to_do

pub returns-clause-none : goal.returns-clause-none
returns-clause-none c = none_to_do
