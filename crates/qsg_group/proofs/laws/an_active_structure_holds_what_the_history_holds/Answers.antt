use Rattle.qsg_group.proofs.Listing.{holds_as_a_list}
use Rattle.qsg_group.proofs.laws.an_active_structure_holds_what_the_history_holds.Goals as goal

pub returns : goal.returns
returns c = holds_as_a_list
