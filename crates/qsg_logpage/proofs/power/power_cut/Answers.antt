use Rattle.qsg_logpage.proofs.Cuts.{cut_short}
use Rattle.qsg_logpage.proofs.power.power_cut.Goals as goal

pub returns-clause-cut : goal.returns-clause-cut
returns-clause-cut g c = λ told keep tied. cut_short keep c.args.log.now _ _ c.in_hand.ensures.some c.in_hand.ensures.held tied (c.power_cut.ensures.cut told)
