use Rattle.qsg_datasets.proofs.Maps.{size_freed}
use Rattle.qsg_datasets.proofs.member_data_set.MemberDataSet.free.Goals as goal

pub invariant_of-self : goal.invariant_of-self
invariant_of-self g c = (c.self.invariant.0, rw c.free_in.ensures (size_freed c.args.epoch _ c.args.blocks.now _ c.self.invariant.1))
