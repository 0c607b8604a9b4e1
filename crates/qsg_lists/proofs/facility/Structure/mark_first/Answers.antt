use Rattle.qsg_lists.proofs.Takes.{sound-mark_found}
use Rattle.qsg_lists.proofs.facility.Structure.mark_first.Goals as goal

pub invariant_of-self : goal.invariant_of-self
invariant_of-self c = rw c.take.ensures.after (sound-mark_found c.args.unit _ _ c.self.invariant)
