use Rattle.qsg_blocks.proofs.Reading.{reader_stays}
use Rattle.qsg_blocks.proofs.works.every_change_keeps_readers.Goals as goal

pub returns : goal.returns
returns c = λ w g h change told fits laws fit. reader_stays w g h change told fits laws fit
