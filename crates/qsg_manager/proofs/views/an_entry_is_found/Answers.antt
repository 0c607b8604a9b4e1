use Rattle.qsg_manager.proofs.Bridges.{found}
use Rattle.qsg_manager.proofs.views.an_entry_is_found.Goals as goal

pub returns : goal.returns
returns c = λ o s id structure. found o s id structure.entries
