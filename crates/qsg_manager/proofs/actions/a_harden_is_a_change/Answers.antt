use Rattle.qsg_manager.proofs.Ending.{harden_is_harden}
use Rattle.qsg_manager.proofs.actions.a_harden_is_a_change.Goals as goal

pub returns : goal.returns
returns c = harden_is_harden
