use Rattle.qsg_dataset.proofs.Saving.{saving-shut, shutting-shut, cut-shut, shut-unsaved}
use Rattle.qsg_dataset.proofs.laws.a_shut_gate_stays.Goals as goal

pub returns-clause-saving : goal.returns-clause-saving
returns-clause-saving c = λ at epoch used result old new early step shut. saving-shut at epoch used result old new early step shut

pub returns-clause-shutting : goal.returns-clause-shutting
returns-clause-shutting c = λ at result old new late step shut. shutting-shut at result old new late step shut

pub returns-clause-cut : goal.returns-clause-cut
returns-clause-cut c = λ old new cut shut. cut-shut old new cut shut

pub returns-clause-unsaved : goal.returns-clause-unsaved
returns-clause-unsaved c = λ epoch blocks used bytes shut saved. shut-unsaved epoch blocks used bytes shut saved
