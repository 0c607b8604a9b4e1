use Rattle.qsg_logread.proofs.Cut.{cut_log}
use Rattle.qsg_logread.proofs.laws.records_after_a_power_cut.Goals as goal

pub returns : goal.returns
returns c = cut_log
