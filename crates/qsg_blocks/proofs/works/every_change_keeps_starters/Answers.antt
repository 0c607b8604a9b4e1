use Rattle.qsg_blocks.proofs.Starting.{starter_stays}
use Rattle.qsg_blocks.proofs.works.every_change_keeps_starters.Goals as goal

pub returns : goal.returns
returns c = λ w g h change others told fits laws fit. starter_stays w g h change others told fits laws fit
