use Rattle.qsg_manager.proofs.Gets.{shelf_order}
use Rattle.qsg_manager.proofs.actions.shelves_are_in_order.Goals as goal

pub returns : goal.returns
returns c = shelf_order
