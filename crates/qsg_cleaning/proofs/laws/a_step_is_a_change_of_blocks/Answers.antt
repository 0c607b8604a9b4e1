use Rattle.qsg_cleaning.proofs.Grounds.{is_blocks_change}
use Rattle.qsg_cleaning.proofs.laws.a_step_is_a_change_of_blocks.Goals as goal

pub returns : goal.returns
returns c = is_blocks_change
