use Rattle.qsg_lists.specs.Settling.{deleted}
use Rattle.qsg_lists.proofs.Revising.{sound-if_done, keeps-deleted}
use Rattle.qsg_lists.proofs.facility.Structure.forget.Goals as goal

pub invariant_of-self : goal.invariant_of-self
invariant_of-self c =
    rw c.forget.ensures.after (sound-if_done c.forget.result c.args.id deleted keeps-deleted _ c.self.invariant)
