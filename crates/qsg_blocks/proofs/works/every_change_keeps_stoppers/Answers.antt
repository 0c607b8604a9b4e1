use Rattle.qsg_blocks.proofs.Starting.{stopper_stays}
use Rattle.qsg_blocks.proofs.works.every_change_keeps_stoppers.Goals as goal

pub returns : goal.returns
returns c = λ w g h change others told fits laws fit. stopper_stays w g h change others told fits laws fit
