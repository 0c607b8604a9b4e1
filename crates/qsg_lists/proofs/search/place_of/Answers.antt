use Rattle.qsg_lists.specs.Entries.{has_id}
use Rattle.qsg_lists.proofs.Places.{none_found, some_found}
use Rattle.qsg_lists.proofs.search.place_of.Goals as goal

pub returns-clause-none : goal.returns-clause-none
returns-clause-none c = none_found (has_id c.args.id) c.args.entries.now _ c.position_of.ensures

pub returns-clause-some : goal.returns-clause-some
returns-clause-some c = some_found (has_id c.args.id) c.args.entries.now _ c.position_of.ensures
