use Rattle.qsg_blocks.proofs.Writing.{writer_stays, writer_hand_stays}
use Rattle.qsg_blocks.proofs.works.every_change_keeps_writers.Goals as goal

pub returns-clause-written : goal.returns-clause-written
returns-clause-written c = λ w g h change others told fits laws fit. writer_stays w g h change others told fits laws fit

pub returns-clause-hand : goal.returns-clause-hand
returns-clause-hand c = λ w g h change others hand. writer_hand_stays w g h change others hand
