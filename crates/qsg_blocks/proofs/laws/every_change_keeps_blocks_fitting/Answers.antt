use Rattle.qsg_blocks.proofs.Fitting.{fitting_stays}
use Rattle.qsg_blocks.proofs.laws.every_change_keeps_blocks_fitting.Goals as goal

pub returns : goal.returns
returns c = λ g h change fits. fitting_stays g h change fits
