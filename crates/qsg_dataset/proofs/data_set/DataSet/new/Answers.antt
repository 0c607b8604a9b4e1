use Rattle.qsg_dataset.proofs.Blocks.{blocks_counted}
use Rattle.qsg_dataset.proofs.data_set.DataSet.new.Goals as goal

pub invariant_of-result : goal.invariant_of-result
invariant_of-result g c =
    let sized = c.requires.1 in
    rw c.size.ensures (rw (blocks_counted _ _ c.requires.0 sized) sized)
