use Rattle.qsg_unitlog.proofs.Steps.{kept_from_hand, kept_from_next}
use Rattle.qsg_unitlog.proofs.laws.keep_rises_behind_all_runs.Goals as goal

pub returns-clause-in_hand : goal.returns-clause-in_hand
returns-clause-in_hand c = kept_from_hand

pub returns-clause-idle : goal.returns-clause-idle
returns-clause-idle c = kept_from_next
