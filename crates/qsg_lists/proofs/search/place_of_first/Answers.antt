use Rattle.qsg_lists.specs.Entries.{is_first}
use Rattle.qsg_lists.proofs.Places.{none_found, some_found}
use Rattle.qsg_lists.proofs.search.place_of_first.Goals as goal

pub returns-clause-none : goal.returns-clause-none
returns-clause-none c = none_found (is_first c.args.queue.now c.args.order c.args.select.now c.args.entries.now) c.args.entries.now _ c.position_of_first.ensures

pub returns-clause-some : goal.returns-clause-some
returns-clause-some c = some_found (is_first c.args.queue.now c.args.order c.args.select.now c.args.entries.now) c.args.entries.now _ c.position_of_first.ensures
