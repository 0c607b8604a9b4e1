use Rattle.qsg_blocks.proofs.Whole.{laws_stay}
use Rattle.qsg_blocks.proofs.laws.every_change_keeps_the_laws.Goals as goal

pub returns : goal.returns
returns c = λ g h change told fits laws. laws_stay g h change told fits laws
