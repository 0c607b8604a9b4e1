use Rattle.qsg_dataset.proofs.Saving.{saving-ready, shutting-ready, cut-ready, ready-saved}
use Rattle.qsg_dataset.proofs.laws.a_ready_map_stays.Goals as goal

pub returns-clause-saving : goal.returns-clause-saving
returns-clause-saving c = λ at epoch used result old new late step ready. saving-ready at epoch used result old new late step ready

pub returns-clause-shutting : goal.returns-clause-shutting
returns-clause-shutting c = λ at epoch used result old new step ready. shutting-ready at epoch used result old new step ready

pub returns-clause-cut : goal.returns-clause-cut
returns-clause-cut c = λ epoch used old new cut ready. cut-ready epoch used old new cut ready

pub returns-clause-saved : goal.returns-clause-saved
returns-clause-saved c = λ epoch used bytes ready opened. ready-saved epoch used bytes ready opened
