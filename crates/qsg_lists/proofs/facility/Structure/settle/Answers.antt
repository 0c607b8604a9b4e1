use Rattle.qsg_lists.specs.Settling.{settled_entry}
use Rattle.qsg_lists.proofs.Revising.{sound-if_done, keeps-settled}
use Rattle.qsg_lists.proofs.facility.Structure.settle.Goals as goal

pub invariant_of-self : goal.invariant_of-self
invariant_of-self c =
    rw c.settle.ensures.after (sound-if_done c.settle.result c.args.id (settled_entry c.args.commits) (keeps-settled c.args.commits) _ c.self.invariant)
