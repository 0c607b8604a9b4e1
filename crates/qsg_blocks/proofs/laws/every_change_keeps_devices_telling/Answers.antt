use Rattle.qsg_blocks.proofs.Fitting.{told_stays}
use Rattle.qsg_blocks.proofs.laws.every_change_keeps_devices_telling.Goals as goal

pub returns : goal.returns
returns c = λ g h change told. told_stays g h change told
